-- What the arrays hold is what items hold on every half-decided sheet that the arrays show; at the start nothing is charged.
use Rattle.std.specs.Prelude.{◌≡◌, not, ◌||◌, List, ℕ, ◌+◌, ◌<◌, get_or}
use Rattle.std.proofs.Math.Path.{refl, sym, ap}
use Rattle.std.proofs.Common.{◌∙◌, arith}
use Rattle.std.proofs.Math.Dec.{eqb}
use Rattle.rules.specs.Slots.{pick, over}
use Rattle.rules.specs.Subscription.{Subscription}
use Rattle.rules.specs.Relaxation.{KeptBySlot}
use Rattle.rules.specs.Decisions.{DecidedBySlot}
use Rattle.rules.specs.Limits.{option_open, ordering_open}
use Rattle.rules.specs.laws.Sums.{sum_cong}
use Rattle.rules.specs.laws.search.Items.{Item, option, ordering}
use Rattle.rules.specs.laws.search.Residual.{Residual, option_goes, ordering_goes, held, lost, open_weights}
use Rattle.rules.specs.laws.search.Charged.{Charged, charged_none}
use Rattle.rows.specs.Sets.{Holds}
use Rattle.rows.specs.laws.Sets.{holds_at}
use Rattle.graph.specs.Shown.{counted}
use Rattle.chart.specs.Arrays.{Weighs}
use Rattle.numbered.specs.Items.{ends_only}
use Rattle.numbered.specs.Shown.{ShowsKnown}
use Rattle.residual.specs.Taken.{residual_in}
use Rattle.residual.specs.Started.{StartsAs}

module _ (v : Subscription) (d : DecidedBySlot) (n m : ℕ) (known firsts seconds : List ℕ) (sh : ShowsKnown v d n m known firsts seconds) where
  -- the sheet with the arrays' counts, and what the arrays alone say of it
  abbrev s : Subscription
  s = counted n m v

  abbrev w : Subscription
  w = ends_only n m firsts seconds

  goes_same : (x : Item) (u : ℕ) → u < m → ordering_goes w x u ≡ ordering_goes s x u
  unfolding ends_only
  goes_same (option i) u l = sym (ap (λ q. eqb q i || eqb (v.second u) i) (sh.first u l) ∙ ap (λ q. eqb (get_or firsts u 0) i || eqb q i) (sh.second u l))
  goes_same (ordering z) u l = refl

  -- What an item's consequences hold by the arrays is what they hold on the sheet.
  pub held_same : (r : Residual) (x : Item) → held w r x ≡ held s r x
  unfolding held ends_only
  held_same r x = ap (λ q. over n r.option (option_goes x) + q)
      (sum_cong m (λ u. pick (ordering_goes w x u) (r.ordering u)) (λ u. pick (ordering_goes s x u) (r.ordering u)) (λ u l. ap (λ q. pick q (r.ordering u)) (goes_same x u l)))

-- AT THE START nothing is charged: the arrays hold the weights of the open items.
pub start_charged : (v : Subscription) (d : DecidedBySlot) (n m : ℕ) (ws bs : List ℕ) → Weighs v n m ws bs → (opens open_orderings : ℕ) → Holds opens n (option_open (counted n m v) d) → Holds open_orderings m (ordering_open (counted n m v) d)
    → (options orderings : List ℕ) → StartsAs opens ws 32 n options → StartsAs open_orderings bs 64 m orderings → Charged (counted n m v) d 0 (residual_in options orderings)
unfolding lost open_weights residual_in
start_charged v d n m ws bs weighs opens open_orderings ho hu options orderings so su = record { covers = λ c ok ag. let e = same c in let h = (charged_none s d).covers c ok ag in omega arith }
  where
    s : Subscription
    s = counted n m v

    same : (c : KeptBySlot) → lost s (residual_in options orderings) c ≡ lost s (open_weights s d) c
    same c =
        let p = sum_cong n (λ i. pick (not (c.option i)) (get_or options i 0)) (λ i. pick (not (c.option i)) (pick (option_open s d i) (v.weight i)))
        (λ i l. ap (pick (not (c.option i))) (so.at i l ∙ ap (λ b. pick b (get_or ws i 0)) (holds_at ho i l) ∙ ap (pick (option_open s d i)) (sym (weighs.weight i l)))) in
        let q = sum_cong m (λ u. pick (not (c.ordering u)) (get_or orderings u 0)) (λ u. pick (not (c.ordering u)) (pick (ordering_open s d u) (v.ordering_weight u)))
        (λ u l. ap (pick (not (c.ordering u))) (su.at u l ∙ ap (λ b. pick b (get_or bs u 0)) (holds_at hu u l) ∙ ap (pick (ordering_open s d u)) (sym (weighs.ordering_weight u l)))) in
        omega arith
