-- What the trailer's test says.
use Prim.Native.Nat.{ℕ, ◌≤◌}
use mathlib.Core.Path.{◌≡◌, ap, ◌∙◌}
use mathlib.Core.Bool.{true, false}
use lib.Dec.{eqb, ltb}
use borrow.Author.Tests.{eqb-true, ltb-false, not-false, le-ltb}
use mathlib.Core.List.{List}
use lib.ListN.{length, drop}
use Rattle.std.proofs.lemmas.Bool.{or_parts}
use Rattle.shape.specs.Number.{numbers_of}
use Rattle.shape.specs.Trailer.{last_line, is_trailer}
use Rattle.shape.specs.declared.number.Numbers.{Numbers}
use Rattle.shape.specs.declared.trailer.LastLine.{LastLine}
use Rattle.lines.specs.declared.result.Reading.{Reading}
use Rattle.sheet.specs.declared.answer.Refusal.TheVariants.{NoTrailer}
use Rattle.lines.specs.Result.{refused_at}
use Rattle.reader.specs.Read.{bad_trailer, read_trailed, read_sheet}

pub good_trailer : (f u t n : ℕ) → bad_trailer f u t n ≡ false → (1 ≤ f) × ((f ≤ u) × ((u ≤ t) × (t ≡ n)))
good_trailer f u t n e =
    let a = or_parts (ltb f 1) _ e in
    let b = or_parts (ltb u f) _ a.1 in
    let c = or_parts (ltb t u) _ b.1 in
    (ltb-false f 1 a.0, (ltb-false u f b.0, (ltb-false t u c.0, eqb-true t n (not-false (eqb t n) c.1))))

pub read_on : (s : List ℕ) (e : LastLine) (h : Numbers) (r : Reading) → length s ≤ 8192 → e ≡ last_line s → is_trailer (drop e.start s) ≡ true
    → h ≡ numbers_of (drop e.start s) → r ≡ read_trailed s e.start e.lines h.first h.second h.third → r ≡ read_sheet s
unfolding read_sheet
read_on s e h r le ee t eh er = rw (le-ltb 8192 (length s) le, ← ee, t) (er ∙ ap (λ (x : Numbers). read_trailed s e.start e.lines x.first x.second x.third) eh)

pub read_not : (s : List ℕ) (e : LastLine) (r : Reading) → length s ≤ 8192 → e ≡ last_line s → is_trailer (drop e.start s) ≡ false
    → r ≡ refused_at NoTrailer 0 0 → r ≡ read_sheet s
unfolding read_sheet
read_not s e r le ee t er = rw (le-ltb 8192 (length s) le, ← ee, t) er
