-- What is reported, packed.
use Rattle.std.specs.Prelude.{ℕ, ◌≡◌, Bool, true, false, cond, List, ltb, length}
use Rattle.std.proofs.Common.{ap, subst, sym, ◌∙◌, arith}
use Rattle.sheet.specs.declared.answer.Answer.TheVariants.{Accepted}
use Rattle.report.specs.laws.Short.{report_short}
use Rattle.report.specs.Report.{report_of}
use Rattle.report.specs.Answer.{too_short, report_answer}
use Rattle.report.specs.declared.reporting.Reported.{Reported}
use Rattle.wire.specs.Packed.{packed_answer, Fits}

report_fits : (text out : List ℕ) → Fits (report_answer text out).answer (report_answer text out).size
unfolding report_answer
report_fits text out = go (ltb (length out) (length (report_of text)))
  where
    go : (b : Bool) → let r = cond b too_short (record { answer = Accepted; size = length (report_of text) }) in Fits r.answer r.size
    go true = record { placed = (omega arith, omega arith); small_count = omega arith }
    go false = record { placed = tt; small_count = let h = report_short text in omega arith }

module _ (text out : List ℕ) {r : Reported} (e : r ≡ report_answer text out) where
  pub report_packs : Fits r.answer r.size
  report_packs = subst (λ z. Fits z.answer z.size) (sym e) (report_fits text out)

  pub report_packed : {n : ℕ} → n ≡ packed_answer r.answer r.size → n ≡ packed_answer (report_answer text out).answer (report_answer text out).size
  report_packed q = q ∙ ap (λ z. packed_answer z.answer z.size) e
