-- What the code's charge says of every half-decided sheet that the arrays show: the invariant of the charges is kept.
use Rattle.std.specs.Prelude.{◌≡◌, ℕ, ◌+◌, ◌≤◌, get_or}
use Rattle.std.proofs.Common.{sym, subst, arith}
use mathlib.Core.List.{List, Memᴰ}
use Rattle.rules.specs.Subscription.{Subscription}
use Rattle.rules.specs.Decisions.{DecidedBySlot}
use Rattle.rules.specs.laws.search.Items.{Item}
use Rattle.rules.specs.laws.search.Residual.{Residual, held}
use Rattle.rules.specs.laws.search.Charged.{Charged}
use Rattle.rules.proofs.laws.search.Charged.{charged_more}
use Rattle.rules.proofs.laws.search.Loose.{ItemOnTheSheet}
use Rattle.graph.specs.Shown.{counted}
use Rattle.numbered.specs.Items.{ends_only}
use Rattle.numbered.specs.Shown.{ShowsKnown}
use Rattle.numbered.specs.laws.Items.{named_on_the_sheet}
use Rattle.links.specs.Links.{members}
use Rattle.links.specs.laws.Chain.{member_is}
use Rattle.links.specs.laws.Shown.{closes_same}
use Rattle.residual.specs.Taken.{residual_in}
use Rattle.residual.specs.laws.Shown.{held_same}
use Rattle.charge.specs.Charges.{Charges, idle, charged, ChargedAs}

module _ (v : Subscription) (d : DecidedBySlot) (n m : ℕ) (known firsts seconds : List ℕ) (sh : ShowsKnown v d n m known firsts seconds) where
  -- the sheet with the arrays' counts, and what the arrays alone say of it
  abbrev s : Subscription
  s = counted n m v

  abbrev w : Subscription
  w = ends_only n m firsts seconds

  -- THE CODE'S CHARGE KEEPS THE INVARIANT: what it gives back may be added to what is charged.
  pub charge_charged : (chain : List ℕ) (k e before : ℕ) (options orderings options' orderings' : List ℕ) → ChargedAs known firsts seconds n m chain k e options orderings options' orderings'
      → Charged s d before (residual_in options orderings) → Charged s d (before + e) (residual_in options' orderings')
  charge_charged chain k e before options orderings options' orderings' done h = go done.charges
    where
      r : Residual
      r = residual_in options orderings

      r' : Residual
      r' = residual_in options' orderings'

      go : Charges known firsts seconds n m chain k e options orderings options' orderings' → Charged s d (before + e) r'
      go (idle z p q) = subst (λ x. Charged s d x r') (let y : before ≡ before + e = omega arith in y)
          (subst (λ x. Charged s d before (residual_in options' x)) (sym q) (subst (λ x. Charged s d before (residual_in x orderings)) (sym p) h))
      go (charged named closed c) = charged_more s d (members chain k) e before r r' (closes_same v d n m known firsts seconds sh (members chain k) on closed)
          (record { lower = c.lower; taken = λ x y. subst (λ q. e + held s r' x ≤ q) (held_same v d n m known firsts seconds sh r x) (subst (λ q. e + q ≤ held w r x) (held_same v d n m known firsts seconds sh r' x) (c.taken x y)) }) h
        where
          on : (y : Item) → Memᴰ y (members chain k) → ItemOnTheSheet s y
          on y i = let (p, l, q) = member_is chain k y i in subst (ItemOnTheSheet s) (sym q) (named_on_the_sheet v n m (get_or chain p 0) (named.each p l))
