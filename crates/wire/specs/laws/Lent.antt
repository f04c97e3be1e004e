-- The ways out of an exported function that has a list or a lent output to check.
use Rattle.std.specs.Prelude.{ℕ, ◌≤◌, ◌<◌, ◌≡◌, Bool, true, false, not, ◌&&◌, cond, List, T, leb, length}
use Rattle.std.proofs.Math.Path.{refl}
use Rattle.std.proofs.Common.{sym, ap, subst, ◌∙◌, arith, leb-true}
use Rattle.std.proofs.lemmas.Bool.{not-true, not-false}
use Rattle.sheet.specs.declared.answer.Answer.{Answer}
use Rattle.sheet.specs.declared.answer.Answer.TheVariants.{Accepted, Refused}
use Rattle.sheet.specs.declared.answer.Refusal.{Refusal}
use Rattle.sheet.specs.declared.answer.Refusal.TheVariants.{OutputTooShort, WrongDecisions}
use Rattle.print.specs.Put.{put}
use Rattle.print.proofs.PutLaws.{put_whole}
use Rattle.wire.specs.Packed.{packed_answer, Placed, Fits}
use Rattle.sheet.specs.Answer.{refused}
use Rattle.wire.specs.Lent.{is_accepted, with_list, lent, written}

pub placed_nowhere : (why : Refusal) → Placed (refused why)
placed_nowhere why = (omega arith, omega arith)

pub placed_accepted : Placed Accepted
placed_accepted = tt

placed_either : (b : Bool) (why : Refusal) (answer : Answer) → Placed answer → Placed (cond b (refused why) answer)
placed_either true why answer p = placed_nowhere why
placed_either false why answer p = p

pub placed_with_list : (answer : Answer) (recorded spelled : Bool) → Placed answer → Placed (with_list answer recorded spelled)
unfolding with_list
placed_with_list answer recorded spelled p = placed_either (recorded && not spelled) WrongDecisions answer p

pub placed_lent : (answer : Answer) (fits : Bool) → Placed answer → Placed (lent answer fits)
unfolding lent
placed_lent answer fits p = placed_either (is_accepted answer && not fits) OutputTooShort answer p

-- ---- a success of a lent answer
-- It fits, and was one before.
lent_fits : (answer : Answer) (fits : Bool) → is_accepted (lent answer fits) ≡ true → fits ≡ true
unfolding lent
lent_fits Accepted true e = refl
lent_fits Accepted false e = absurd (subst T (sym e) tt)
lent_fits (Refused place why) fits e = absurd (subst T (sym e) tt)

pub accepted_is : (answer : Answer) → is_accepted answer ≡ true → answer ≡ Accepted
accepted_is Accepted e = refl
accepted_is (Refused place why) e = absurd (subst T (sym e) tt)

-- What was a success once lent was one before.
lent_before : (answer : Answer) (fits : Bool) → is_accepted (lent answer fits) ≡ true → is_accepted answer ≡ true
unfolding lent
lent_before Accepted fits e = refl
lent_before (Refused place why) fits e = absurd (subst T (sym e) tt)

same_packed : (a : Answer) (k m : ℕ) → is_accepted a ≡ false → packed_answer a k ≡ packed_answer a m
same_packed Accepted k m f = absurd (subst T f tt)
same_packed (Refused place why) k m f = refl

-- ---- how a success is known to fit
both_true : (x y : Bool) → (x && y) ≡ true → (x ≡ true) × (y ≡ true)
both_true true y e = (refl, e)
both_true false y e = absurd (subst T (sym e) tt)

module _ (first : Answer) (n long : ℕ) {answer : Answer} {fits : Bool} (a : answer ≡ lent first fits) where
  pub lent_done : fits ≡ leb n long → (answer ≡ lent first (leb n long)) × (is_accepted answer ≡ true → n ≤ long)
  lent_done f = let e = a ∙ ap (lent first) f in (e, λ h. leb-true n long (lent_fits first (leb n long) (sym (ap is_accepted e) ∙ h)))

  pub lent_both_done : (m other : ℕ) {room more : Bool} → fits ≡ (room && more) → room ≡ leb n long → more ≡ leb m other
      → (answer ≡ lent first (leb n long && leb m other)) × (is_accepted answer ≡ true → (n ≤ long) × (m ≤ other))
  lent_both_done m other f g k =
      let e : answer ≡ lent first (leb n long && leb m other) = a ∙ ap (lent first) (rw (← g, ← k) f) in
      (e, λ h. let b = both_true (leb n long) (leb m other) (lent_fits first (leb n long && leb m other) (sym (ap is_accepted e) ∙ h)) in (leb-true n long b.0, leb-true m other b.1))

-- A test that was not turned away.
pub passed : {ok accepted : Bool} → ok ≡ accepted → not ok ≡ false → accepted ≡ true
passed {ok} k h = sym k ∙ not-false ok h

-- ---- the two ways out: `enough` says whether what was lent is long enough, `ok` whether the answer is a success
module _ (first : Answer) (enough : Bool) {answer : Answer} {ok : Bool} (a : answer ≡ lent first enough) (k : ok ≡ is_accepted answer) where
  success : not ok ≡ false → is_accepted (lent first enough) ≡ true
  success h = sym (ap is_accepted a) ∙ sym k ∙ not-false ok h

  failure : not ok ≡ true → is_accepted (lent first enough) ≡ false
  failure h = sym (ap is_accepted a) ∙ sym k ∙ not-true ok h

  pub out_packs : Placed first → (n : ℕ) → n < 65536 → Fits answer n
  out_packs p n h = record { placed = subst Placed (sym a) (placed_lent first enough p); small_count = h }

  pub out_refused : (m : ℕ) {r : ℕ} → not ok ≡ true → r ≡ packed_answer answer 0 → r ≡ packed_answer (lent first enough) m
  out_refused m h q = q ∙ ap (λ z. packed_answer z 0) a ∙ same_packed (lent first enough) 0 m (failure h)

  pub out_kept : (shown out : List ℕ) → not ok ≡ true → out ≡ written (lent first enough) shown out
  unfolding written
  out_kept shown out h = rw (failure h) refl

  pub out_before : not ok ≡ false → is_accepted first ≡ true
  out_before h = lent_before first enough (success h)

  pub out_accepted : {m n r : ℕ} → n ≡ m → r ≡ packed_answer answer n → r ≡ packed_answer (lent first enough) m
  out_accepted {m} e q = q ∙ ap (λ z. packed_answer answer z) e ∙ ap (λ z. packed_answer z m) a

  pub out_written : (shown out : List ℕ) {after : List ℕ} → not ok ≡ false → length shown ≤ length out → after ≡ put 0 shown out → after ≡ written (lent first enough) shown out
  unfolding written
  out_written shown out h l q = rw (success h) (q ∙ put_whole shown out l)
