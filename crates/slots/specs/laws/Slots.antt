-- The slots of a list of numbers, one more at a time.
use Rattle.std.specs.Prelude.{◌≡◌, List, ℕ, ◌+◌, ◌<◌, get_or, set, replicate}
use Rattle.std.proofs.Common.{subst, ◌∙◌, arith, length-set, get_or-set_same, get_or-set_other}
use Rattle.std.proofs.Math.Decide.{ℕ_discrete}
use Rattle.std.proofs.lemmas.List.{length-replicate}
use Rattle.slots.specs.Slots.{SlotOf, SlotsOf, SlotsBy}

pub slots_none : (table ends : List ℕ) → SlotsBy table ends 0 (replicate 64 0)
slots_none table ends = record { size = length-replicate {A = ℕ} 64 0; of = λ n numbers t. record { size = length-replicate {A = ℕ} 64 0; at = λ u l. absurd (omega arith) } }

slot_more : {n : ℕ} {numbers ends : List ℕ} {m : ℕ} {r : List ℕ} {x : ℕ} → SlotsOf n m numbers ends r → m < 64 → SlotOf n numbers (get_or ends m 0) x → SlotsOf n (m + 1) numbers ends (set r m x)
slot_more {n} {numbers} {ends} {m} {r} {x} w h s = record { size = length-set r m x ∙ w.size; at = λ u l. go u l (ℕ_discrete u m) }
  where
    go : (u : ℕ) → u < m + 1 → Dec (u ≡ m) → SlotOf n numbers (get_or ends u 0) (get_or (set r m x) u 0)
    go u l (yes e) = rw (e, get_or-set_same r m x 0 (let z = w.size in omega arith)) s
    go u l (no k) = rw (get_or-set_other r m u x 0 k) (w.at u (omega arith))

pub slots_step : (table ends : List ℕ) {m : ℕ} {r : List ℕ} → SlotsBy table ends m r → m < 64 → get_or ends m 0 < 256 → SlotsBy table ends (m + 1) (set r m (get_or table (get_or ends m 0) 0))
slots_step table ends {m} {r} w h b = record { size = length-set r m _ ∙ w.size; of = λ n numbers t. slot_more (w.of n numbers t) h (t.at (get_or ends m 0) b) }

pub slots_end : {table ends : List ℕ} {m k : ℕ} {r : List ℕ} → SlotsBy table ends m r → m ≡ k → SlotsBy table ends k r
slots_end {table} {ends} {m} {k} {r} w e = subst (λ z. SlotsBy table ends z r) e w
