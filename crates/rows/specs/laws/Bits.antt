-- What rows hold after each operation: callers go by these and never open a row.
use Rattle.std.specs.Prelude.{ℕ, zero, suc, ◌+◌, ◌/◌, ◌%◌, ◌^◌, ◌<◌, max, min, ◌-◌, Bool, true, false, not, ◌&&◌, ◌||◌, ◌≡◌, refl, eqb, ◌⊎◌}
use Rattle.std.proofs.Common.{sym, ap, ◌∙◌, arith, mod-lt, pow-suc, add_comm, inl, inr, pow-add, pow_pos, eq-eqb, ne_eqb, eqb-true}
use Rattle.std.proofs.Math.Bool.{or-false}
use Rattle.std.proofs.Math.Nat.{zero-div, div-eq_of_lt, mul-mod_left, div_self}
use Rattle.std.specs.Int.Bits.{bit_or, bit_and, bit_xor, differ, or_step, and_step, xor_step}
use Rattle.std.proofs.lemmas.Nat.{or_shr, and_shr, xor_shr, shl-shr}
use Rattle.std.proofs.Math.Pow.{pow-lt}
use Rattle.rows.specs.Bits.{has, with, joined, met, with_if, joined_if, turned}

-- a bit of `or` is the larger of the two
or_bit : (a b : ℕ) → bit_or a b % 2 ≡ max (a % 2) (b % 2)
or_bit a b = rw (or_step a b) (let h = max_two (a % 2) (b % 2) (mod-lt a (omega arith)) (mod-lt b (omega arith)) in omega arith)
  where
    max_two : (x y : ℕ) → x < 2 → y < 2 → max x y < 2
    max_two x y p q = omega arith

two : (x : ℕ) → x < 2 → (x ≡ 0) ⊎ (x ≡ 1)
two zero h = inl refl
two (suc zero) h = inr refl
two (suc (suc x)) h = absurd (omega arith)

max_or : (x y : ℕ) → (x ≡ 0) ⊎ (x ≡ 1) → (y ≡ 0) ⊎ (y ≡ 1) → eqb (max x y) 1 ≡ (eqb x 1 || eqb y 1)
max_or x y (inl e) (inl f) = rw (e, f)
max_or x y (inl e) (inr f) = rw (e, f)
max_or x y (inr e) (inl f) = rw (e, f)
max_or x y (inr e) (inr f) = rw (e, f)

pub has_joined : (a b i : ℕ) → has (joined a b) i ≡ (has a i || has b i)
unfolding has joined
has_joined a b i = rw (or_shr a b i, or_bit (a / 2 ^ i) (b / 2 ^ i)) (max_or _ _ (two _ (mod-lt (a / 2 ^ i) (omega arith))) (two _ (mod-lt (b / 2 ^ i) (omega arith))))

-- a power of two has one bit
power_below : (i k : ℕ) → 2 ^ i / 2 ^ (i + suc k) % 2 ≡ 0
power_below i k = rw (div-eq_of_lt (pow-lt {i = i} {j = i + suc k} (omega arith)))

power_same : (i : ℕ) → 2 ^ i / 2 ^ i % 2 ≡ 1
power_same i = rw (div_self (pow_pos i))

power_above : (j k : ℕ) → 2 ^ (j + suc k) / 2 ^ j % 2 ≡ 0
power_above j k = rw (add_comm j (suc k), pow-add 2 (suc k) j, shl-shr (2 ^ suc k) j, pow-suc 2 k) (mul-mod_left (2 ^ k) 2)

has_power : (i j : ℕ) → (i < j) ⊎ ((i ≡ j) ⊎ (j < i)) → has (2 ^ i) j ≡ eqb i j
unfolding has
has_power i j (inl h) =
    let e : i + suc (j - suc i) ≡ j = omega arith in
    let p = rw e at (power_below i (j - suc i)) in
    rw (p, ne_eqb i j (λ q. omega arith))
has_power i j (inr (inl h)) = rw (← h, power_same i, eq-eqb i i refl)
has_power i j (inr (inr h)) =
    let e : j + suc (i - suc j) ≡ i = omega arith in
    let p = rw e at (power_above j (i - suc j)) in
    rw (p, ne_eqb i j (λ q. omega arith))

pub has_with : (row i j : ℕ) → (i < j) ⊎ ((i ≡ j) ⊎ (j < i)) → has (with row i) j ≡ (has row j || eqb i j)
unfolding with joined
has_with row i j h = has_joined row (2 ^ i) j ∙ ap (λ (b : Bool). has row j || b) (has_power i j h)

three : (i j : ℕ) → (i < j) ⊎ ((i ≡ j) ⊎ (j < i))
three zero zero = inr (inl refl)
three zero (suc j) = inl (omega arith)
three (suc i) zero = inr (inr (omega arith))
three (suc i) (suc j) = go (three i j)
  where
    go : (i < j) ⊎ ((i ≡ j) ⊎ (j < i)) → (suc i < suc j) ⊎ ((suc i ≡ suc j) ⊎ (suc j < suc i))
    go (inl h) = inl (omega arith)
    go (inr (inl h)) = inr (inl (omega arith))
    go (inr (inr h)) = inr (inr (omega arith))

-- the row that holds nothing
pub has_none : (j : ℕ) → has 0 j ≡ false
unfolding has
has_none j = rw (zero-div (2 ^ j)) refl

pub has_with_if : (row i : ℕ) (y : Bool) (j : ℕ) → has (with_if row i y) j ≡ (has row j || (y && eqb i j))
unfolding with_if
has_with_if row i true j = has_with row i j (three i j)
has_with_if row i false j = sym (or-false (has row j))

pub has_joined_if : (a b : ℕ) (y : Bool) (j : ℕ) → has (joined_if a b y) j ≡ (has a j || (y && has b j))
unfolding joined_if
has_joined_if a b true j = has_joined a b j
has_joined_if a b false j = sym (or-false (has a j))

and_bit : (a b : ℕ) → bit_and a b % 2 ≡ min (a % 2) (b % 2)
and_bit a b = rw (and_step a b) (let h = min_two (a % 2) (b % 2) (mod-lt a (omega arith)) (mod-lt b (omega arith)) in omega arith)
  where
    min_two : (x y : ℕ) → x < 2 → y < 2 → min x y < 2
    min_two x y p q = omega arith

min_and : (x y : ℕ) → (x ≡ 0) ⊎ (x ≡ 1) → (y ≡ 0) ⊎ (y ≡ 1) → eqb (min x y) 1 ≡ (eqb x 1 && eqb y 1)
min_and x y (inl e) (inl f) = rw (e, f)
min_and x y (inl e) (inr f) = rw (e, f)
min_and x y (inr e) (inl f) = rw (e, f)
min_and x y (inr e) (inr f) = rw (e, f)

pub has_met : (a b i : ℕ) → has (met a b) i ≡ (has a i && has b i)
unfolding has met
has_met a b i = rw (and_shr a b i, and_bit (a / 2 ^ i) (b / 2 ^ i)) (min_and _ _ (two _ (mod-lt (a / 2 ^ i) (omega arith))) (two _ (mod-lt (b / 2 ^ i) (omega arith))))

pub has_with_slot : (row i j : ℕ) → has (with row i) j ≡ (has row j || eqb i j)
has_with_slot row i j = has_with row i j (three i j)

xor_bit : (a b : ℕ) → bit_xor a b % 2 ≡ differ (a % 2) (b % 2)
xor_bit a b = rw (xor_step a b) (let h = differ_two (a % 2) (b % 2) (two _ (mod-lt a (omega arith))) (two _ (mod-lt b (omega arith))) in omega arith)
  where
    differ_two : (x y : ℕ) → (x ≡ 0) ⊎ (x ≡ 1) → (y ≡ 0) ⊎ (y ≡ 1) → differ x y < 2
    differ_two x y (inl e) (inl f) = rw (e, f) (omega arith)
    differ_two x y (inl e) (inr f) = rw (e, f) (omega arith)
    differ_two x y (inr e) (inl f) = rw (e, f) (omega arith)
    differ_two x y (inr e) (inr f) = rw (e, f) (omega arith)

other : Bool → Bool → Bool
other true b = not b
other false b = b

differ_other : (x y : ℕ) → (x ≡ 0) ⊎ (x ≡ 1) → (y ≡ 0) ⊎ (y ≡ 1) → eqb (differ x y) 1 ≡ other (eqb x 1) (eqb y 1)
unfolding other
differ_other x y (inl e) (inl f) = rw (e, f)
differ_other x y (inl e) (inr f) = rw (e, f)
differ_other x y (inr e) (inl f) = rw (e, f)
differ_other x y (inr e) (inr f) = rw (e, f)

has_xor : (a b i : ℕ) → has (bit_xor a b) i ≡ other (has a i) (has b i)
unfolding has
has_xor a b i = rw (xor_shr a b i, xor_bit (a / 2 ^ i) (b / 2 ^ i)) (differ_other _ _ (two _ (mod-lt (a / 2 ^ i) (omega arith))) (two _ (mod-lt (b / 2 ^ i) (omega arith))))

-- a slot that was in is out
pub has_turned : (row i j : ℕ) → has row i ≡ true → has (turned row i) j ≡ (has row j && not (eqb i j))
unfolding turned other
has_turned row i j h = has_xor row (2 ^ i) j ∙ ap (λ (b : Bool). other (has row j) b) (has_power i j (three i j)) ∙ go (three i j)
  where
    by : (a b : Bool) → (b ≡ true → a ≡ true) → other a b ≡ (a && not b)
    by true b f = refl
    by false true f = sym (f refl)
    by false false f = refl

    go : (i < j) ⊎ ((i ≡ j) ⊎ (j < i)) → other (has row j) (eqb i j) ≡ (has row j && not (eqb i j))
    go w = by (has row j) (eqb i j) (λ e. rw (← eqb-true i j e) h)
