-- What the writer answers and leaves behind, in each of its three ways out.
use Prim.Native.Nat.{ℕ, ◌≤◌, ◌<◌}
use mathlib.Core.Path.{◌≡◌, refl, ap, ◌∙◌}
use mathlib.Core.Bool.{true, false}
use mathlib.Core.List.{List}
use lib.ListN.{length}
use borrow.Author.Tests.{lt-ltb, le-ltb}
use Rattle.sheet.specs.IsRecorded.{is_recorded}
use Rattle.sheet.specs.Text.{text_of}
use Rattle.print.specs.Put.{put}
use Rattle.writer.specs.Write.{not_written, write_answer, write_buffer}
use Rattle.sheet.specs.declared.sheet.Sheet.{Sheet}
use Rattle.sheet.specs.declared.answer.Refusal.TheVariants.{NotRecorded, OutputTooShort}
use Rattle.sheet.specs.declared.answer.Answer.TheVariants.{Accepted}
use Rattle.writer.specs.declared.writing.Written.{Written}
use Rattle.print.proofs.PutLaws.{put_whole}

abbrev pub Wrote : Sheet → List ℕ → Written → List ℕ → Type 0
Wrote s out r after = (r ≡ write_answer s out) × (after ≡ write_buffer s out)

pub wrote_not_recorded : (s : Sheet) (out : List ℕ) (r : Written) → is_recorded s ≡ false → r ≡ not_written NotRecorded → Wrote s out r out
unfolding write_answer write_buffer
wrote_not_recorded s out r e d = rw e (d, refl)

pub wrote_too_short : (s : Sheet) (out : List ℕ) (r : Written) → is_recorded s ≡ true → length out < length (text_of s) → r ≡ not_written OutputTooShort → Wrote s out r out
unfolding write_answer write_buffer
wrote_too_short s out r e h d = rw (e, lt-ltb (length out) (length (text_of s)) h) (d, refl)

pub wrote_text : (s : Sheet) (out after : List ℕ) (n : ℕ) → is_recorded s ≡ true → length (text_of s) ≤ length out → n ≡ length (text_of s) → after ≡ put 0 (text_of s) out
    → Wrote s out (record { answer = Accepted; size = n }) after
unfolding write_answer write_buffer
wrote_text s out after n e h k d =
    rw (e, le-ltb (length out) (length (text_of s)) h) (ap (λ (x : ℕ). record { answer = Accepted; size = x }) k, d ∙ put_whole (text_of s) out h)
