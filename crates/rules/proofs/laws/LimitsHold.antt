-- The limits that `limits_of` gives hold for every consistent relaxation of the sheet that agrees with the decisions.
use Rattle.std.specs.Prelude.{◌≡◌, refl, Bool, true, not, ◌||◌, cond, List, ℕ, ◌+◌, ◌≤◌, ◌<◌, length}
use Rattle.std.proofs.Common.{sym, ◌∙◌, get_or-take, get_or-drop}
use Rattle.std.proofs.Math.Path.{subst, ap}
use Rattle.std.proofs.Math.Bool.{false}
use native.Mathlib.Omega.{arith}
use Rattle.std.proofs.Math.ListN.{get_or}
use Rattle.std.proofs.Math.Dec.{T}
use Rattle.rules.specs.Lines.{Lines}
use Rattle.rules.specs.Subscription.{Subscription, subscription, items, Proper}
use Rattle.rules.specs.Relaxation.{KeptBySlot, kept_by_slot, ConsistentRelaxation, value_of}
use Rattle.rules.specs.Decisions.{Decision, Open, is_open, DecidedBySlot, decided_by_slot, Agrees}
use Rattle.rules.specs.KnownBefore.{ordering_kept, option_kept}
use Rattle.rules.specs.Forced.{option_dropped, ordering_dropped}
use Rattle.rules.specs.Limits.{option_open, ordering_open, whole_lower, whole_upper, option_kept_lower, option_kept_upper, option_dropped_lower, option_dropped_upper, ordering_kept_lower, ordering_kept_upper, ordering_dropped_lower, ordering_dropped_upper}
use Rattle.rules.specs.Results.{no_limit, option_limit, ordering_limit, limited, limits_of}
use Rattle.rules.specs.laws.Slots.{getD_list_of}
use Rattle.rules.specs.laws.BySlot.{ConsistentBySlot, AgreesBySlot}
use Rattle.rules.proofs.laws.Limits.{whole_lower_holds, whole_upper_holds, option_kept_lower_holds, option_kept_upper_holds, option_dropped_upper_holds, ordering_kept_lower_holds, ordering_kept_upper_holds, ordering_dropped_upper_holds}
use Rattle.rules.specs.laws.OnSlots.{agrees_by_slot, consistent_by_slot}
use Rattle.rules.proofs.laws.Contradiction.{no_contradiction_told, agreeing_no_contradiction}
use Rattle.rules.proofs.laws.OpenChoices.{open_option, open_ordering}

pub record Between (low high x : ℕ) : Type 0 where
  pub lower : low ≤ x
  pub upper : x ≤ high

cond_yes {ℓ} : {A : Type ℓ} (b : Bool) (x y : A) → T b → cond b x y ≡ x
cond_yes true x y t = refl
cond_yes false x y t = absurd t

neither : (a b : Bool) → (T a → ⊥) → (T b → ⊥) → T (not (a || b))
neither true b h k = absurd (h tt)
neither false true h k = absurd (k tt)
neither false false h k = tt

module _ (s : Lines) (ps : Proper s) (d : List Decision) (size : length d ≡ items s) (r : List Bool) (ok : ConsistentRelaxation s r) (agrees : Agrees d r) where
  abbrev n : ℕ
  n = length s.options

  abbrev m : ℕ
  m = length s.orderings

  abbrev v : Subscription
  v = subscription s

  abbrev b : DecidedBySlot
  b = decided_by_slot s d

  abbrev c : KeptBySlot
  c = kept_by_slot s r

  cs : ConsistentBySlot v c
  cs = consistent_by_slot s r ok

  ag : AgreesBySlot b c
  ag = agrees_by_slot s d r agrees

  told : limits_of s d ≡ limited s d
  told = no_contradiction_told s d (agreeing_no_contradiction s d r ok agrees)

  -- ---- the whole sheet
  pub whole_limits_hold : Between (limits_of s d).lower (limits_of s d).upper (value_of s r)
  unfolding value_of whole_lower whole_upper
  whole_limits_hold = subst (λ l. Between l.lower l.upper (value_of s r)) (sym told)
      (let p = whole_lower_holds v b c cs ag in let q = whole_upper_holds v b c cs ag in record { lower = p; upper = omega arith })

  -- ---- an open option i, kept and dropped
  module _ (i : ℕ) (l : i < n) (o : T (is_open (get_or (limits_of s d).decisions i Open))) where
    opened : T (option_open v b i)
    opened = let (h, k) = open_option s ps d size i l (subst (λ z. T (is_open (get_or z.decisions i Open))) told o) in neither (option_kept v b i) (option_dropped v b i) h k

    at_option : get_or (limits_of s d).options i no_limit ≡ record { kept_lower = option_kept_lower v b i; kept_upper = option_kept_upper v b i; dropped_lower = option_dropped_lower v b i; dropped_upper = option_dropped_upper v b i }
    unfolding option_limit
    at_option = ap (λ z. get_or z.options i no_limit) told ∙ getD_list_of n (option_limit v b) no_limit i l ∙ cond_yes (option_open v b i) _ no_limit opened

    pub option_kept_limits_hold : T (get_or r i false) → Between (get_or (limits_of s d).options i no_limit).kept_lower (get_or (limits_of s d).options i no_limit).kept_upper (value_of s r)
    unfolding value_of option_kept_lower option_kept_upper subscription kept_by_slot
    option_kept_limits_hold t = subst (λ z. Between z.kept_lower z.kept_upper (value_of s r)) (sym at_option)
        (let k = subst T (sym (get_or-take n r i false l)) t in let p = option_kept_lower_holds v b c cs ag i l opened k in let q = option_kept_upper_holds v b c cs ag i k in
        record { lower = p; upper = omega arith })

    pub option_dropped_limits_hold : T (not (get_or r i false)) → Between (get_or (limits_of s d).options i no_limit).dropped_lower (get_or (limits_of s d).options i no_limit).dropped_upper (value_of s r)
    unfolding value_of option_dropped_lower option_dropped_upper kept_by_slot
    option_dropped_limits_hold t = subst (λ z. Between z.dropped_lower z.dropped_upper (value_of s r)) (sym at_option)
        (let k = subst (λ x. T (not x)) (sym (get_or-take n r i false l)) t in let p = whole_lower_holds v b c cs ag in let q = option_dropped_upper_holds v b c cs ag i opened k in
        record { lower = p; upper = omega arith })

  -- ---- an open ordering u, kept and dropped
  module _ (u : ℕ) (l : u < m) (o : T (is_open (get_or (limits_of s d).decisions (n + u) Open))) where
    opened_ordering : T (ordering_open v b u)
    opened_ordering = let (h, k) = open_ordering s ps d size u l (subst (λ z. T (is_open (get_or z.decisions (n + u) Open))) told o) in neither (ordering_kept v b u) (ordering_dropped v b u) h k

    at_ordering : get_or (limits_of s d).orderings u no_limit ≡ record { kept_lower = ordering_kept_lower v b u; kept_upper = ordering_kept_upper v b u; dropped_lower = ordering_dropped_lower v b u; dropped_upper = ordering_dropped_upper v b u }
    unfolding ordering_limit
    at_ordering = ap (λ z. get_or z.orderings u no_limit) told ∙ getD_list_of m (ordering_limit v b) no_limit u l ∙ cond_yes (ordering_open v b u) _ no_limit opened_ordering

    pub ordering_kept_limits_hold : T (get_or r (n + u) false) → Between (get_or (limits_of s d).orderings u no_limit).kept_lower (get_or (limits_of s d).orderings u no_limit).kept_upper (value_of s r)
    unfolding value_of ordering_kept_lower ordering_kept_upper subscription kept_by_slot
    ordering_kept_limits_hold t = subst (λ z. Between z.kept_lower z.kept_upper (value_of s r)) (sym at_ordering)
        (let k = subst T (sym (get_or-drop n r u false)) t in let p = ordering_kept_lower_holds v b c cs ag u l opened_ordering k in let q = ordering_kept_upper_holds v b c cs ag u k in
        record { lower = p; upper = omega arith })

    pub ordering_dropped_limits_hold : T (not (get_or r (n + u) false)) → Between (get_or (limits_of s d).orderings u no_limit).dropped_lower (get_or (limits_of s d).orderings u no_limit).dropped_upper (value_of s r)
    unfolding value_of ordering_dropped_lower ordering_dropped_upper subscription kept_by_slot
    ordering_dropped_limits_hold t = subst (λ z. Between z.dropped_lower z.dropped_upper (value_of s r)) (sym at_ordering)
        (let k = subst (λ x. T (not x)) (sym (get_or-drop n r u false)) t in let p = whole_lower_holds v b c cs ag in let q = ordering_dropped_upper_holds v b c cs ag u l opened_ordering k in
        record { lower = p; upper = omega arith })
