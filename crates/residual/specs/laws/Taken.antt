-- What an item's consequences hold, by the arrays, and what taking leaves: at one slot, from an option's orderings, from an item's consequences.
use Rattle.std.specs.Prelude.{◌≡◌, Bool, true, false, List, ℕ, ◌+◌, ◌-◌, ◌≤◌, ◌<◌, length, set}
use Rattle.std.proofs.Math.Path.{refl, ap}
use Rattle.std.proofs.Common.{sym, subst, ◌∙◌, arith, length-set, get_or-set_same, get_or-set_other}
use Rattle.std.proofs.Math.Decide.{ℕ_discrete}
use Rattle.std.proofs.Math.ListN.{get_or}
use Rattle.rules.specs.Slots.{sum, pick, over}
use Rattle.rules.specs.Subscription.{Subscription}
use Rattle.rules.specs.laws.Sums.{over_none, over_one_is, over_yes, over_no, sum_mono, sum_cong}
use Rattle.rules.specs.laws.search.Items.{Item}
use Rattle.rules.specs.laws.search.Residual.{Residual, Lower, option_goes, ordering_goes, held}
use Rattle.numbered.specs.Items.{Named, ends_only}
use Rattle.numbered.specs.laws.Items.{numbered_option, numbered_ordering}
use Rattle.residual.specs.Taken.{residual_in, LeftIn, SmallEnough, TookAt, touches_in, TookTo, Took, held_in}

module _ (firsts seconds : List ℕ) (n m : ℕ) (options orderings : List ℕ) where
  pub held_ordering : (x : ℕ) → Named n m x → 32 ≤ x → held_in n m firsts seconds options orderings x ≡ get_or orderings (x - 32) 0
  unfolding held ends_only residual_in
  held_ordering x k h = ap (held (ends_only n m firsts seconds) (residual_in options orderings)) (numbered_ordering x h) ∙
      (let p = over_none n (λ i. get_or options i 0) in let q = over_one_is (x - 32) m (λ w. get_or orderings w 0) (k.ordering h) in omega arith)

  pub held_option : (x : ℕ) → Named n m x → x < 32 → held_in n m firsts seconds options orderings x ≡ get_or options x 0 + over m (λ w. get_or orderings w 0) (touches_in firsts seconds x)
  unfolding held ends_only residual_in
  held_option x k h = ap (held (ends_only n m firsts seconds) (residual_in options orderings)) (numbered_option x h) ∙ (let q = over_one_is x n (λ i. get_or options i 0) (k.option h) in omega arith)

module _ (l : List ℕ) (i need : ℕ) (l' : List ℕ) (rest : ℕ) (k : TookAt l i need l' rest) (h : i < length l) where
  pub took_size : length l' ≡ length l
  took_size = ap length k.is ∙ length-set l i (get_or l i 0 - need)

  pub took_here : get_or l' i 0 ≡ get_or l i 0 - need
  took_here = ap (λ z. get_or z i 0) k.is ∙ get_or-set_same l i (get_or l i 0 - need) 0 h

  pub took_other : (j : ℕ) → (j ≡ i → ⊥) → get_or l' j 0 ≡ get_or l j 0
  took_other j n = ap (λ z. get_or z j 0) k.is ∙ get_or-set_other l i j (get_or l i 0 - need) 0 n

  pub took_lower : (j : ℕ) → get_or l' j 0 ≤ get_or l j 0
  took_lower j = go (ℕ_discrete j i)
    where
      go : Dec (j ≡ i) → get_or l' j 0 ≤ get_or l j 0
      go (yes e) = subst (λ z. get_or l' z 0 ≤ get_or l z 0) (sym e) (let q = took_here in omega arith)
      go (no n) = let q = took_other j n in omega arith

module _ (orderings firsts seconds : List ℕ) (x need : ℕ) where
  pub took_none : TookTo orderings firsts seconds x need 0 orderings need
  unfolding sum
  took_none = record { size = refl; lower = λ j. omega arith; ahead = λ j h. refl; rests = omega arith; sums = refl }

  pub took_no : (w : ℕ) (orderings' : List ℕ) (rest : ℕ) → TookTo orderings firsts seconds x need w orderings' rest → touches_in firsts seconds x w ≡ false → TookTo orderings firsts seconds x need (w + 1) orderings' rest
  took_no w orderings' rest k e = record {
    size = k.size;
    lower = k.lower;
    ahead = λ j h. k.ahead j (omega arith);
    rests = (let p = over_no w (λ j. get_or orderings j 0) (touches_in firsts seconds x) e in let q = k.rests in omega arith);
    sums = (let p = over_no w (λ j. get_or orderings j 0) (touches_in firsts seconds x) e in let r = over_no w (λ j. get_or orderings' j 0) (touches_in firsts seconds x) e in let q = k.sums in omega arith);
  }

  pub took_yes : (w : ℕ) (orderings' : List ℕ) (rest : ℕ) (orderings'' : List ℕ) (rest' : ℕ) → TookTo orderings firsts seconds x need w orderings' rest → w < length orderings → touches_in firsts seconds x w ≡ true
      → TookAt orderings' w rest orderings'' rest' → TookTo orderings firsts seconds x need (w + 1) orderings'' rest'
  took_yes w orderings' rest orderings'' rest' k h e t = record {
    size = took_size orderings' w rest orderings'' rest' t h' ∙ k.size;
    lower = λ j. (let p = took_lower orderings' w rest orderings'' rest' t h' j in let q = k.lower j in omega arith);
    ahead = λ j l. took_other orderings' w rest orderings'' rest' t h' j (λ z. omega arith) ∙ k.ahead j (omega arith);
    rests = (let p = over_yes w (λ j. get_or orderings j 0) (touches_in firsts seconds x) e in let q = k.rests in let r = t.rests in let s = k.ahead w (omega arith) in omega arith);
    sums = (let p = over_yes w (λ j. get_or orderings j 0) (touches_in firsts seconds x) e in let p' = over_yes w (λ j. get_or orderings'' j 0) (touches_in firsts seconds x) e in
        let same = sum_cong w (λ j. pick (touches_in firsts seconds x j) (get_or orderings'' j 0)) (λ j. pick (touches_in firsts seconds x j) (get_or orderings' j 0))
        (λ j l. ap (pick (touches_in firsts seconds x j)) (took_other orderings' w rest orderings'' rest' t h' j (λ z. omega arith))) in
        let here = took_here orderings' w rest orderings'' rest' t h' in
        let q = k.sums in let r = t.rests in let s = k.ahead w (omega arith) in omega arith);
  }
    where
      h' : w < length orderings'
      h' = let z = k.size in omega arith

module _ (firsts seconds : List ℕ) (n m x need : ℕ) (options orderings : List ℕ) (k : Named n m x) (enough : need ≤ held_in n m firsts seconds options orderings x) where
  pub took_ordering : (orderings' : List ℕ) (rest : ℕ) → 32 ≤ x → x - 32 < length orderings → TookAt orderings (x - 32) need orderings' rest → Took firsts seconds n m x need options orderings options orderings'
  unfolding residual_in
  took_ordering orderings' rest h l t = record {
    option_size = refl;
    ordering_size = took_size orderings (x - 32) need orderings' rest t l;
    lower = record { option = λ i. omega arith; ordering = took_lower orderings (x - 32) need orderings' rest t l };
    taken = (let p = held_ordering firsts seconds n m options orderings x k h in let q = held_ordering firsts seconds n m options orderings' x k h in let r = took_here orderings (x - 32) need orderings' rest t l in omega arith);
  }

  pub took_option : (options' orderings' : List ℕ) (rest rest' : ℕ) → x < 32 → x < length options → TookAt options x need options' rest → TookTo orderings firsts seconds x rest m orderings' rest'
      → Took firsts seconds n m x need options orderings options' orderings'
  unfolding residual_in
  took_option options' orderings' rest rest' h l t s = record {
    option_size = took_size options x need options' rest t l;
    ordering_size = s.size;
    lower = record { option = took_lower options x need options' rest t l; ordering = s.lower };
    taken = (let p = held_option firsts seconds n m options orderings x k h in let q = held_option firsts seconds n m options' orderings' x k h in let r = took_here options x need options' rest t l in
        let y = s.sums in let z = s.rests in let w = t.rests in omega arith);
  }

-- ---- lower residuals hold less
pub held_lower : (v : Subscription) (s r : Residual) → Lower s r → (x : Item) → held v s x ≤ held v r x
unfolding held
held_lower v s r le x =
    let a = sum_mono v.option_count (λ i. pick (option_goes x i) (s.option i)) (λ i. pick (option_goes x i) (r.option i)) (λ i _. up (option_goes x i) (s.option i) (r.option i) (le.option i)) in
    let b = sum_mono v.ordering_count (λ i. pick (ordering_goes v x i) (s.ordering i)) (λ i. pick (ordering_goes v x i) (r.ordering i)) (λ i _. up (ordering_goes v x i) (s.ordering i) (r.ordering i) (le.ordering i)) in omega arith
  where
    up : (t : Bool) (y z : ℕ) → y ≤ z → pick t y ≤ pick t z
    up true y z h = h
    up false y z h = omega arith

pub lower_then : (q s r : Residual) → Lower q s → Lower s r → Lower q r
lower_then q s r x y = record { option = λ i. (let a = x.option i in let b = y.option i in omega arith); ordering = λ i. (let a = x.ordering i in let b = y.ordering i in omega arith) }

pub set_same : (l : List ℕ) (i x y : ℕ) → x ≡ y → set l i x ≡ set l i y
set_same l i x y e = ap (λ z. set l i z) e

pub took_as : (orderings firsts seconds : List ℕ) (x need w : ℕ) (orderings' orderings'' : List ℕ) (rest rest' : ℕ) → orderings'' ≡ orderings' → rest' ≡ rest → TookTo orderings firsts seconds x need w orderings' rest
    → TookTo orderings firsts seconds x need w orderings'' rest'
took_as orderings firsts seconds x need w orderings' orderings'' rest rest' p q k = subst (λ z. TookTo orderings firsts seconds x need w z rest') (sym p) (subst (λ z. TookTo orderings firsts seconds x need w orderings' z) (sym q) k)

pub took_to : (orderings firsts seconds : List ℕ) (x need w m : ℕ) (orderings' : List ℕ) (rest : ℕ) → w ≡ m → TookTo orderings firsts seconds x need w orderings' rest → TookTo orderings firsts seconds x need m orderings' rest
took_to orderings firsts seconds x need w m orderings' rest e k = subst (λ z. TookTo orderings firsts seconds x need z orderings' rest) e k

pub left_lower : (n m : ℕ) (options orderings options' orderings' : List ℕ) → length options' ≡ length options → length orderings' ≡ length orderings
    → Lower (residual_in options' orderings') (residual_in options orderings) → LeftIn n m options orderings → LeftIn n m options' orderings'
unfolding residual_in
left_lower n m options orderings options' orderings' p q le s = record {
  option_size = (let a = s.option_size in omega arith);
  ordering_size = (let a = s.ordering_size in omega arith);
  option = λ i. let a = le.option i in let b = s.option i in omega arith;
  ordering = λ u. let a = le.ordering u in let b = s.ordering u in omega arith;
}

pub small_lower : (options orderings options' orderings' : List ℕ) → length options' ≡ length options → length orderings' ≡ length orderings
    → Lower (residual_in options' orderings') (residual_in options orderings) → SmallEnough options orderings → SmallEnough options' orderings'
unfolding residual_in
small_lower options orderings options' orderings' p q le s = record {
  option_size = p ∙ s.option_size;
  ordering_size = q ∙ s.ordering_size;
  option = λ i. let a = le.option i in let b = s.option i in omega arith;
  ordering = λ u. let a = le.ordering u in let b = s.ordering u in omega arith;
}
