-- Each place that holds an option counts one.
use mathlib.Core.Path.{◌≡◌}
use Rattle.std.proofs.Common.{rules, length}
use Rattle.std.specs.List.{count_by}
use Rattle.wire.specs.Places.{is_used}
use Rattle.wire.specs.laws.Places.{all_used}
use Rattle.wire.proofs.places_out.places_in_use.Goals as goal

pub returns : goal.returns
returns c =
    let long : length c.args.places ≡ 32 = search rules in
    let used : c.count.result ≡ count_by (λ number. is_used number.0) c.args.places = search rules in
    all_used c.args.places long used
