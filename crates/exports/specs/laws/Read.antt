-- A sheet from its text to a lent output.
use Rattle.std.specs.Prelude.{ℕ, ◌≤◌, ◌<◌, ◌≡◌, refl, Bool, true, false, not, List, leb, length}
use Rattle.std.proofs.Common.{sym, subst, ◌∙◌, arith}
use Rattle.std.proofs.Math.Path.{ap}
use Rattle.sheet.specs.declared.answer.Answer.{Answer}
use Rattle.sheet.specs.declared.answer.Answer.TheVariants.{Accepted, Refused}
use Rattle.reader.specs.Read.{read_sheet}
use Rattle.lines.specs.declared.result.Reading.{Reading}
use Rattle.report.specs.laws.Place.{line_of, column_of, place_is_short}
use Rattle.report.specs.laws.Reading.{accepted_is_recorded}
use Rattle.print.specs.Put.{put}
use Rattle.wire.specs.Packed.{packed_answer, Placed}
use Rattle.fields.specs.Record.{bytes_of, record_size}
use Rattle.wire.specs.Lent.{is_accepted, lent, written}
use Rattle.exports.specs.Read.{read_result, read_record}
use Rattle.wire.specs.laws.Lent.{accepted_is, passed, out_refused, out_kept, out_accepted, out_written}
use Rattle.fields_out.specs.laws.Put.{record_fits}

placed_short : (a : Answer) → (line_of a < 65536) × (column_of a < 65536) → Placed a
placed_short Accepted h = tt
placed_short (Refused place why) h = h

module _ (text : List ℕ) {x : Reading} (i : x ≡ read_sheet text) where
  pub read_placed : Placed x.answer
  read_placed = subst (λ z. Placed z.answer) (sym i) (placed_short (read_sheet text).answer (place_is_short text))

  -- the counts of an accepted sheet are small
  pub counts_small : is_accepted x.answer ≡ true → (x.sheet.catalogue_lines < 65536) × ((x.sheet.option_count < 65536) × (x.sheet.ordering_count < 65536))
  counts_small e =
      let rule = accepted_is_recorded text x i (accepted_is x.answer e) in
      let a = rule.few_catalogue in let b = rule.few_options in let c = rule.few_orderings in
      (omega arith, (omega arith, omega arith))

module _ (text out : List ℕ) {x : Reading} (i : x ≡ read_sheet text) where
  abbrev enough : Bool
  enough = leb record_size (length out)

  done : {r : ℕ} {after : List ℕ} → r ≡ packed_answer (lent x.answer enough) 0 → after ≡ written (lent x.answer enough) (bytes_of x.sheet) out
      → (r ≡ read_result text out) × (after ≡ read_record text out)
  unfolding read_result read_record
  done q g = (q ∙ ap (λ z. packed_answer (lent z.answer enough) 0) i, g ∙ ap (λ z. written (lent z.answer enough) (bytes_of z.sheet) out) i)

  -- ---- the two ways out of `wharftoken_read`
  module _ {answer : Answer} {ok : Bool} (a : (answer ≡ lent x.answer enough) × (is_accepted answer ≡ true → 1894 ≤ length out)) (k : ok ≡ is_accepted answer) where
    pub read_untouched : {r : ℕ} → not ok ≡ true → r ≡ packed_answer answer 0 → (r ≡ read_result text out) × (out ≡ read_record text out)
    read_untouched h q = done (out_refused x.answer enough a.0 k 0 h q) (out_kept x.answer enough a.0 k (bytes_of x.sheet) out h)

    pub read_accepted : {r : ℕ} {after : List ℕ} → not ok ≡ false → after ≡ put 0 (bytes_of x.sheet) out → r ≡ packed_answer answer 0
        → (r ≡ read_result text out) × (after ≡ read_record text out)
    read_accepted h g q =
        done
        (out_accepted x.answer enough a.0 k refl q)
        (out_written x.answer enough a.0 k (bytes_of x.sheet) out h (record_fits x.sheet out (a.1 (passed k h))) g)
