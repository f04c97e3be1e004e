-- The two bytes of a number below 65,536 are its remainder and its quotient.
use Prim.Native.Nat.{◌%◌}
use mathlib.Core.Path.{refl, ap, ◌∙◌}
use mathlib.Core.List.{[], ◌∷◌}
use native.Mathlib.Omega.{arith}
use Rattle.entries.specs.laws.Put.{slice_written}
use Rattle.fields.specs.Record.{two_bytes}
use Rattle.fields_out.proofs.record_out.put_two.Goals as goal

pub returns : goal.returns
returns c =
    let bytes = c.copy_from_slice.ensures.after ∙ c.to_le_bytes.ensures ∙ ap (λ high. c.args.number % 256 ∷ high ∷ []) (omega arith) in
    slice_written _ 2 (two_bytes c.args.number) _ bytes refl c.requires
