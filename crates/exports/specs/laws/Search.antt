-- The search from bytes; and at tolerance 0 two results that the promise allows are equal.
use Rattle.std.specs.Prelude.{ℕ, ◌≤◌, ◌≡◌, refl, Bool, true, false, not, ◌&&◌, List, leb, ltb, length}
use Rattle.std.proofs.Common.{sym, ap, subst, ◌∙◌, ltb-true, ltb-false}
use Rattle.rules.specs.Best as R
use Rattle.sheet.specs.IsRecorded.{is_recorded}
use Rattle.sheet.specs.Limits.{largest_value}
use Rattle.sheet.specs.declared.sheet.Sheet.{Sheet}
use Rattle.sheet.specs.declared.answer.Refusal.TheVariants.{NotRecorded, ToleranceTooLarge}
use Rattle.search.specs.Search.{answered, SearchedAs}
use Rattle.search.specs.laws.Searched.{one_result_at_nought}
use Rattle.search.specs.declared.sheet_search.Searched.{Searched}
use Rattle.sheet.specs.declared.answer.Answer.{Answer}
use Rattle.print.specs.Put.{put}
use Rattle.wire.specs.Packed.{packed_answer, Placed}
use Rattle.fields.specs.Record.{record_in}
use Rattle.decisions.specs.Decisions.{decision_bytes}
use Rattle.wire.specs.Lent.{is_accepted, lent, written}
use Rattle.exports.specs.Search.{totals_of, search_lent, SearchShown}
use Rattle.wire.specs.laws.Lent.{placed_nowhere, placed_accepted, passed, out_refused, out_kept, out_accepted, out_written}
use Rattle.decisions.specs.laws.Decisions.{decisions_fit}

placed_answered : (s : Sheet) (a : R.Answer) → Placed (answered s a).answer
unfolding answered
placed_answered s a = placed_accepted

pub search_placed : (s : Sheet) (tolerance : ℕ) {x : Searched} → SearchedAs s tolerance x → Placed x.answer
search_placed s tolerance {x} w = go (is_recorded s) (ltb largest_value tolerance) refl refl
  where
    go : (b t : Bool) → is_recorded s ≡ b → ltb largest_value tolerance ≡ t → Placed x.answer
    go false t e f = subst (λ z. Placed z.answer) (sym (w.not_recorded e)) (placed_nowhere NotRecorded)
    go true true e f = subst (λ z. Placed z.answer) (sym (w.too_large e (ltb-true _ _ f))) (placed_nowhere ToleranceTooLarge)
    go true false e f = let (a, is, q) = w.answer e (ltb-false _ _ f) in subst (λ z. Placed z.answer) (sym q) (placed_answered s a)

module _ (bytes : List ℕ) (tolerance : ℕ) (decisions totals : List ℕ) {s : Sheet} {x : Searched} (e : s ≡ record_in bytes) (w : SearchedAs s tolerance x) where
  abbrev enough : Bool
  enough = leb 96 (length decisions) && leb 2 (length totals)

  done : {r : ℕ} {decisions_after totals_after : List ℕ} → r ≡ packed_answer (search_lent x decisions totals) 0
      → decisions_after ≡ written (search_lent x decisions totals) (decision_bytes x.decisions) decisions
      → totals_after ≡ written (search_lent x decisions totals) (totals_of x) totals → SearchShown bytes tolerance decisions totals r decisions_after totals_after
  done q f g = record { found = x; allowed = subst (λ z. SearchedAs z tolerance x) e w; answer = q; shows = f; totals_shown = g }

  -- ---- the two ways out of `wharftoken_search`
  module _ {answer : Answer} {ok : Bool}
      (a : (answer ≡ lent x.answer enough) × (is_accepted answer ≡ true → (96 ≤ length decisions) × (2 ≤ length totals))) (k : ok ≡ is_accepted answer) where
    pub search_untouched : {r : ℕ} → not ok ≡ true → r ≡ packed_answer answer 0 → SearchShown bytes tolerance decisions totals r decisions totals
    search_untouched h q =
        done
        (out_refused x.answer enough a.0 k 0 h q)
        (out_kept x.answer enough a.0 k (decision_bytes x.decisions) decisions h)
        (out_kept x.answer enough a.0 k (totals_of x) totals h)

    pub search_shown : {r : ℕ} {decisions_after totals_after : List ℕ} → not ok ≡ false
        → decisions_after ≡ put 0 (decision_bytes x.decisions) decisions → totals_after ≡ put 0 (totals_of x) totals
        → r ≡ packed_answer answer 0 → SearchShown bytes tolerance decisions totals r decisions_after totals_after
    search_shown h f g q =
        let l = a.1 (passed k h) in
        done
        (out_accepted x.answer enough a.0 k refl q)
        (out_written x.answer enough a.0 k (decision_bytes x.decisions) decisions h (decisions_fit x.decisions decisions l.0) f)
        (out_written x.answer enough a.0 k (totals_of x) totals h l.1 g)

-- TWO RESULTS at tolerance 0 are equal, with all that was lent.
pub one_search : (bytes decisions totals : List ℕ) {r q : ℕ} {d e t u : List ℕ} → SearchShown bytes 0 decisions totals r d t → SearchShown bytes 0 decisions totals q e u → (r ≡ q) × ((d ≡ e) × (t ≡ u))
one_search bytes decisions totals x y =
    let same = one_result_at_nought (record_in bytes) x.found y.found x.allowed y.allowed in (
      x.answer ∙ ap (λ z. packed_answer (search_lent z decisions totals) 0) same ∙ sym y.answer,
      (
        x.shows ∙ ap (λ z. written (search_lent z decisions totals) (decision_bytes z.decisions) decisions) same ∙ sym y.shows,
        x.totals_shown ∙ ap (λ z. written (search_lent z decisions totals) (totals_of z) totals) same ∙ sym y.totals_shown,
      ),
    )
