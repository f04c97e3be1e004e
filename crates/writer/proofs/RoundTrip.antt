-- Reading and writing are inverse to each other, 12 is given exactly to a record that no accepted sheet gives, and the writer's promise allows one result.
use Prim.Native.Nat.{ℕ, ◌≤◌}
use mathlib.Core.Path.{◌≡◌, refl, sym, ap, ◌∙◌}
use mathlib.Core.Bool.{Bool, true, false, cond}
use mathlib.Core.List.{List, ◌++◌, append-nil}
use native.Mathlib.Omega.{arith}
use lib.Dec.{ltb}
use lib.ListN.{length, take, drop, drop_of_length-le, length-append}
use lib.Seq.{take-append_seam, drop-append_seam}
use borrow.Author.Tests.{le-ltb, ltb-false}
use Rattle.sheet.specs.IsRecorded.{is_recorded}
use Rattle.reader.specs.Read.{read_sheet}
use Rattle.sheet.specs.Text.{text_of}
use Rattle.writer.specs.Write.{not_written, write_answer, write_buffer}
use Rattle.shape.specs.declared.scan.Place.{Place}
use Rattle.sheet.specs.declared.sheet.Sheet.{Sheet}
use Rattle.sheet.specs.declared.answer.Refusal.{Refusal}
use Rattle.sheet.specs.declared.answer.Refusal.TheVariants.{NotRecorded, OutputTooShort}
use Rattle.sheet.specs.declared.answer.Answer.TheVariants.{Accepted, Refused}
use Rattle.writer.specs.declared.writing.Written.{Written}
use Rattle.shape.proofs.SplitLaws.{zero_one}
use Rattle.writer.proofs.WriteLaws.{Wrote}
use Rattle.sheet.specs.Recorded.{Lengths}
use Rattle.lines.specs.Result.{accepted}
use Rattle.reader.proofs.AcceptLaws.{accepted_text}
use Rattle.reader.proofs.ExactLaws.{given_passes, passes_is_given}

-- what is read is written back: the sheet's own bytes, and every byte past them as it was
pub read_write : (text out : List ℕ) (s : Sheet) → read_sheet text ≡ accepted s → length text ≤ length out
    → (write_answer s out ≡ record { answer = Accepted; size = length text }) × (write_buffer s out ≡ text ++ drop (length text) out)
unfolding write_answer write_buffer
read_write text out s e h =
    let t : text_of s ≡ text = sym (accepted_text text s e) in
    rw (given_passes text s e, t, le-ltb (length out) (length text) h) (refl, refl)

-- into a buffer of its own size: just the sheet's bytes
pub read_write_fits : (text out : List ℕ) (s : Sheet) → read_sheet text ≡ accepted s → length out ≡ length text → write_buffer s out ≡ text
read_write_fits text out s e h =
    let le : length text ≤ length out = omega arith in
    let ge : length out ≤ length text = omega arith in
    (read_write text out s e le).1 ∙ ap (λ (l : List ℕ). text ++ l) (drop_of_length-le out ge) ∙ append-nil text

-- what is written is read back: the record
pub write_read : (s : Sheet) (out : List ℕ) (n : ℕ) → Lengths s → write_answer s out ≡ record { answer = Accepted; size = n }
    → read_sheet (take n (write_buffer s out)) ≡ accepted s
unfolding write_answer write_buffer
write_read s out n L e = go (is_recorded s) (ltb (length out) (length (text_of s))) refl e
  where
    accepted_not : (k : Refusal) → not_written k ≡ record { answer = Accepted; size = n } → ⊥
    accepted_not k d =
        let z : Refused (record { line = 0; column = 0 }) k ≡ Accepted = ap (λ (w : Written). w.answer) d in
        zero_one (cc)

    go : (b c : Bool) → is_recorded s ≡ b
        → cond b (cond c (not_written OutputTooShort) (record { answer = Accepted; size = length (text_of s) })) (not_written NotRecorded) ≡ record { answer = Accepted; size = n }
        → read_sheet (take n (cond b (cond c out (text_of s ++ drop (length (text_of s)) out)) out)) ≡ accepted s
    go true true p d = absurd (accepted_not OutputTooShort d)
    go true false p d =
        let k : length (text_of s) ≡ n = ap (λ (w : Written). w.size) d in
        ap read_sheet (ap (λ (i : ℕ). take i (text_of s ++ drop (length (text_of s)) out)) (sym k) ∙ take-append_seam (text_of s) (drop (length (text_of s)) out)) ∙ passes_is_given s L p
    go false c p d = absurd (accepted_not NotRecorded d)

-- a refusal leaves the buffer as it was, and its result is zero
pub refused_write : (s : Sheet) (out : List ℕ) (k : Refusal) (p : Place) → (write_answer s out).answer ≡ Refused p k → (write_buffer s out ≡ out) × ((write_answer s out).size ≡ 0)
unfolding write_answer write_buffer
refused_write s out k p e = go (is_recorded s) (ltb (length out) (length (text_of s))) e
  where
    go : (b c : Bool) → (cond b (cond c (not_written OutputTooShort) (record { answer = Accepted; size = length (text_of s) })) (not_written NotRecorded)).answer ≡ Refused p k
        → (cond b (cond c out (text_of s ++ drop (length (text_of s)) out)) out ≡ out)
        × ((cond b (cond c (not_written OutputTooShort) (record { answer = Accepted; size = length (text_of s) })) (not_written NotRecorded)).size ≡ 0)
    go true true d = (refl, refl)
    go true false d = absurd (zero_one (cc))
    go false c d = (refl, refl)

-- two results that the writer's promise allows are equal
pub one_written : (s : Sheet) (out a b : List ℕ) (r q : Written) → Wrote s out r a → Wrote s out q b → (r ≡ q) × (a ≡ b)
one_written s out a b r q x y = (x.0 ∙ sym y.0, x.1 ∙ sym y.1)

-- writing twice leaves the same bytes
pub write_twice : (s : Sheet) (out : List ℕ) → write_buffer s (write_buffer s out) ≡ write_buffer s out
unfolding write_buffer
write_twice s out = go (is_recorded s) (ltb (length out) (length (text_of s))) refl
  where
    again : (out : List ℕ) → length (text_of s) ≤ length out
        → cond (ltb (length (text_of s ++ drop (length (text_of s)) out)) (length (text_of s))) (text_of s ++ drop (length (text_of s)) out)
        (text_of s ++ drop (length (text_of s)) (text_of s ++ drop (length (text_of s)) out))
        ≡ text_of s ++ drop (length (text_of s)) out
    again out h =
        let l : length (text_of s) ≤ length (text_of s ++ drop (length (text_of s)) out) = rw (length-append (text_of s) (drop (length (text_of s)) out)) (omega arith) in
        rw (le-ltb (length (text_of s ++ drop (length (text_of s)) out)) (length (text_of s)) l, drop-append_seam (text_of s) (drop (length (text_of s)) out))

    go : (b c : Bool) → ltb (length out) (length (text_of s)) ≡ c
        → cond b (cond (ltb (length (cond b (cond c out (text_of s ++ drop (length (text_of s)) out)) out)) (length (text_of s))) (cond b (cond c out (text_of s ++ drop (length (text_of s)) out)) out)
        (text_of s ++ drop (length (text_of s)) (cond b (cond c out (text_of s ++ drop (length (text_of s)) out)) out))) (cond b (cond c out (text_of s ++ drop (length (text_of s)) out)) out)
        ≡ cond b (cond c out (text_of s ++ drop (length (text_of s)) out)) out
    go true true e = rw e
    go true false e = again out (ltb-false (length out) (length (text_of s)) e)
    go false c e = refl
