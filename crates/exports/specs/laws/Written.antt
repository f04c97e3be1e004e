-- What `write` answers of a record that was handed over, packed.
use Rattle.std.specs.Prelude.{ℕ, ◌≤◌, ◌<◌, ◌≡◌, refl, Bool, true, false, cond, List, ltb, length}
use Rattle.std.proofs.Common.{ap, subst, sym, ◌∙◌, arith, lt-ltb, ltb-true, ltb-false}
use Rattle.sheet.specs.IsRecorded.{is_recorded}
use Rattle.sheet.specs.Recorded.{Lengths}
use Rattle.sheet.specs.Text.{text_of}
use Rattle.sheet.specs.declared.sheet.Sheet.{Sheet}
use Rattle.sheet.specs.declared.answer.Answer.TheVariants.{Accepted, Refused}
use Rattle.sheet.specs.declared.answer.Refusal.TheVariants.{NotRecorded, OutputTooShort, SheetTooLong}
use Rattle.reader.specs.Read.{read_sheet}
use Rattle.lines.specs.Result.{accepted, refused_at}
use Rattle.reader.proofs.ExactLaws.{passes_is_given}
use Rattle.writer.specs.Write.{not_written, write_answer, write_buffer}
use Rattle.writer.specs.declared.writing.Written.{Written}
use Rattle.wire.specs.Packed.{packed_answer, Fits}
use Rattle.fields.specs.Record.{record_in}
use Rattle.fields.specs.laws.Record.{record_lengths}

too_long : (text : List ℕ) → 8192 < length text → read_sheet text ≡ refused_at SheetTooLong 0 0
unfolding read_sheet
too_long text h = rw (lt-ltb 8192 (length text) h) refl

not_accepted : {s : Sheet} → refused_at SheetTooLong 0 0 ≡ accepted s → ⊥
not_accepted e = let f : Refused (record { line = 0; column = 0 }) SheetTooLong ≡ Accepted = ap (λ x. x.answer) e in let z : ◌≡◌ {A = ℕ} 0 1 = cc in omega arith

-- The text of a record has at most 8,192 bytes, since it is read back.
written_short : (s : Sheet) → Lengths s → is_recorded s ≡ true → length (text_of s) ≤ 8192
written_short s lengths e = go (ltb 8192 (length (text_of s))) refl
  where
    go : (b : Bool) → ltb 8192 (length (text_of s)) ≡ b → length (text_of s) ≤ 8192
    go true q = absurd (not_accepted (sym (too_long (text_of s) (ltb-true _ _ q)) ∙ passes_is_given s lengths e))
    go false q = ltb-false _ _ q

write_fits : (s : Sheet) → Lengths s → (out : List ℕ) → Fits (write_answer s out).answer (write_answer s out).size
unfolding write_answer
write_fits s lengths out = go (is_recorded s) (ltb (length out) (length (text_of s))) refl
  where
    go : (b t : Bool) → is_recorded s ≡ b
        → let w = cond b (cond t (not_written OutputTooShort) (record { answer = Accepted; size = length (text_of s) })) (not_written NotRecorded) in Fits w.answer w.size
    go true true e = record { placed = (omega arith, omega arith); small_count = omega arith }
    go true false e = record { placed = tt; small_count = let h = written_short s lengths e in omega arith }
    go false t e = record { placed = (omega arith, omega arith); small_count = omega arith }

module _ (bytes out : List ℕ) {s : Sheet} {w : Written} (i : s ≡ record_in bytes) (e : w ≡ write_answer s out) where
  is : w ≡ write_answer (record_in bytes) out
  is = e ∙ ap (λ z. write_answer z out) i

  pub write_packs : Fits w.answer w.size
  write_packs = subst (λ z. Fits z.answer z.size) (sym is) (write_fits (record_in bytes) (record_lengths bytes) out)

  pub write_packed : {n : ℕ} {after : List ℕ} → n ≡ packed_answer w.answer w.size → after ≡ write_buffer s out
      → (n ≡ packed_answer (write_answer (record_in bytes) out).answer (write_answer (record_in bytes) out).size) × (after ≡ write_buffer (record_in bytes) out)
  write_packed q g = (q ∙ ap (λ z. packed_answer z.answer z.size) is, g ∙ ap (λ z. write_buffer z out) i)
