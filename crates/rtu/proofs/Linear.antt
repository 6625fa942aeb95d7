-- Functions that pass an exclusive or through. Two of them that agree at the powers of 2 below 2 ^ n agree at every number below 2 ^ n. Assumes nothing.
use mathlib.Core.Path.{◌≡◌, refl, sym, ap, ap₂, ◌∙◌}
use mathlib.Core.Bool.{Bool, true, ◌&&◌}
use Prim.Native.Nat.{ℕ, zero, suc, ◌+◌, ◌*◌, ◌/◌, ◌%◌, ◌^◌, ◌<◌}
use native.Mathlib.Omega.{arith}
use native.Mathlib.Nat.{mod-lt, add-zero, zero-add, zero-mul, one-mul}
use native.Mathlib.Numerals.{one-add}
use lib.Dec.{T, eqb, eqb→eq}
use lib.Arith.{bin_ind, lt-one}
use lib.Pow.{pow_pos, split, shr_lt}
use lib.Bits.{bit_xor, xor_comm, xor_self, xor_zero_r, xor_shr, xor_mod, xor_block, xor_shifted}
use lib.Ieee.Fits.{and_l, and_r}

-- ---- exclusive or is associative

equal_by_halves : (m n : ℕ) → m / 2 ≡ n / 2 → m % 2 ≡ n % 2 → m ≡ n
equal_by_halves m n p q = omega arith

bit_lt : (n : ℕ) → n % 2 < 2
bit_lt n = omega arith

no_bit : {n : ℕ} → suc (suc n) < 2 → ⊥
no_bit h = omega arith

bit_assoc : (a b c : ℕ) → a < 2 → b < 2 → c < 2 → bit_xor (bit_xor a b) c ≡ bit_xor a (bit_xor b c)
bit_assoc zero b c ha hb hc = refl
bit_assoc (suc zero) zero c ha hb hc = refl
bit_assoc (suc zero) (suc zero) zero ha hb hc = refl
bit_assoc (suc zero) (suc zero) (suc zero) ha hb hc = refl
bit_assoc (suc zero) (suc zero) (suc (suc c)) ha hb hc = absurd (no_bit hc)
bit_assoc (suc zero) (suc (suc b)) c ha hb hc = absurd (no_bit hb)
bit_assoc (suc (suc a)) b c ha hb hc = absurd (no_bit ha)

pub xor_assoc : (a b c : ℕ) → bit_xor (bit_xor a b) c ≡ bit_xor a (bit_xor b c)
xor_assoc a =
    bin_ind (λ (n : ℕ). (b c : ℕ) → bit_xor (bit_xor n b) c ≡ bit_xor n (bit_xor b c)) (λ b c. refl)
    (λ n ih b c.
    equal_by_halves (bit_xor (bit_xor n b) c) (bit_xor n (bit_xor b c))
    (xor_shr (bit_xor n b) c 1 ∙ ap (λ (x : ℕ). bit_xor x (c / 2)) (xor_shr n b 1) ∙ ih (b / 2) (c / 2)
    ∙ ap (bit_xor (n / 2)) (sym (xor_shr b c 1)) ∙ sym (xor_shr n (bit_xor b c) 1))
    (xor_mod (bit_xor n b) c 1 ∙ ap (λ (x : ℕ). bit_xor x (c % 2)) (xor_mod n b 1)
    ∙ bit_assoc (n % 2) (b % 2) (c % 2) (bit_lt n) (bit_lt b) (bit_lt c)
    ∙ ap (bit_xor (n % 2)) (sym (xor_mod b c 1)) ∙ sym (xor_mod n (bit_xor b c) 1))) a

xor_swap : (a b c d : ℕ) → bit_xor (bit_xor a b) (bit_xor c d) ≡ bit_xor (bit_xor a c) (bit_xor b d)
xor_swap a b c d =
    xor_assoc a b (bit_xor c d)
    ∙ ap (bit_xor a) (sym (xor_assoc b c d) ∙ ap (λ (x : ℕ). bit_xor x d) (xor_comm b c) ∙ xor_assoc c b d)
    ∙ sym (xor_assoc a c (bit_xor b d))

-- ---- linear functions

pub record Linear (f : ℕ → ℕ) : Type 0 where
  pub through : (a b : ℕ) → f (bit_xor a b) ≡ bit_xor (f a) (f b)

pub by_id : Linear (λ x. x)
by_id = record { through = λ a b. refl }

pub by_xor : {f g : ℕ → ℕ} → Linear f → Linear g → Linear (λ x. bit_xor (f x) (g x))
by_xor {f} {g} lf lg = record { through = λ a b. ap₂ bit_xor (lf.through a b) (lg.through a b) ∙ xor_swap (f a) (f b) (g a) (g b) }

pub by_shr : (k : ℕ) {f : ℕ → ℕ} → Linear f → Linear (λ x. f x / 2 ^ k)
by_shr k {f} lf = record { through = λ a b. ap (λ (x : ℕ). x / 2 ^ k) (lf.through a b) ∙ xor_shr (f a) (f b) k }

pub by_mod : (k : ℕ) {f : ℕ → ℕ} → Linear f → Linear (λ x. f x % 2 ^ k)
by_mod k {f} lf = record { through = λ a b. ap (λ (x : ℕ). x % 2 ^ k) (lf.through a b) ∙ xor_mod (f a) (f b) k }

xor_shl : (k a b : ℕ) → bit_xor a b * 2 ^ k ≡ bit_xor (a * 2 ^ k) (b * 2 ^ k)
xor_shl k a b =
    sym (ap₂ bit_xor (sym (add-zero (a * 2 ^ k))) (sym (add-zero (b * 2 ^ k))) ∙ xor_block k a b 0 0 (pow_pos k) (pow_pos k) ∙ add-zero (bit_xor a b * 2 ^ k))

pub by_shl : (k : ℕ) {f : ℕ → ℕ} → Linear f → Linear (λ x. f x * 2 ^ k)
by_shl k {f} lf = record { through = λ a b. ap (λ (x : ℕ). x * 2 ^ k) (lf.through a b) ∙ xor_shl k (f a) (f b) }

bit_times : (n a b : ℕ) → a < 2 → b < 2 → bit_xor a b * n ≡ bit_xor (a * n) (b * n)
bit_times n zero b ha hb = rw zero-mul
bit_times n (suc zero) zero ha hb = sym (ap (bit_xor (1 * n)) (zero-mul n) ∙ xor_zero_r (1 * n))
bit_times n (suc zero) (suc zero) ha hb = rw (zero-mul, xor_self)
bit_times n (suc zero) (suc (suc b)) ha hb = absurd (no_bit hb)
bit_times n (suc (suc a)) b ha hb = absurd (no_bit ha)

-- the lowest bit, times a number
pub by_bit : (n : ℕ) {f : ℕ → ℕ} → Linear f → Linear (λ x. f x % 2 * n)
by_bit n {f} lf =
    record { through = λ a b. ap (λ (x : ℕ). x * n) ((by_mod 1 lf).through a b) ∙ bit_times n (f a % 2) (f b % 2) (bit_lt (f a)) (bit_lt (f b)) }

pub by_both : {f g : ℕ → ℕ} → Linear f → Linear g → Linear (λ x. f (g x))
by_both {f} {g} lf lg = record { through = λ a b. ap f (lg.through a b) ∙ lf.through (g a) (g b) }

at_zero : {f : ℕ → ℕ} → Linear f → f 0 ≡ 0
at_zero {f} lf = lf.through 0 0 ∙ xor_self (f 0)

-- ---- agreement at the powers of 2

abbrev same_at_powers : (ℕ → ℕ) → (ℕ → ℕ) → ℕ → Bool
same_at_powers f g zero = true
same_at_powers f g (suc n) = eqb (f (2 ^ n)) (g (2 ^ n)) && same_at_powers f g n

module _ {f g : ℕ → ℕ} (lf : Linear f) (lg : Linear g) where
  -- one digit more
  more : (n d m : ℕ) → d < 2 → m < 2 ^ n → f (2 ^ n) ≡ g (2 ^ n) → f m ≡ g m → f (d * 2 ^ n + m) ≡ g (d * 2 ^ n + m)
  more n zero m hd hm e em = rw (zero-mul, zero-add) em
  more n (suc zero) m hd hm e em =
      let s : 1 * 2 ^ n + m ≡ bit_xor (2 ^ n) m = sym (xor_shifted 1 n m hm) ∙ ap (λ (x : ℕ). bit_xor x m) (one-mul (2 ^ n)) in
      ap f s ∙ lf.through (2 ^ n) m ∙ ap₂ bit_xor e em ∙ sym (ap g s ∙ lg.through (2 ^ n) m)
  more n (suc (suc d)) m hd hm e em = absurd (no_bit hd)

  -- two linear functions, tested at the powers of 2
  pub agree : (n : ℕ) → T (same_at_powers f g n) → (x : ℕ) → x < 2 ^ n → f x ≡ g x
  agree zero t x h = ap f (lt-one h) ∙ at_zero lf ∙ sym (ap g (lt-one h) ∙ at_zero lg)
  agree (suc n) t x h =
      let b : Bool = eqb (f (2 ^ n)) (g (2 ^ n)) in
      let e : f (2 ^ n) ≡ g (2 ^ n) = eqb→eq (f (2 ^ n)) (g (2 ^ n)) (and_l b (same_at_powers f g n) t) in
      let hm : x % 2 ^ n < 2 ^ n = mod-lt x (pow_pos n) in
      let hd : x / 2 ^ n < 2 = shr_lt 1 n (rw one-add h) in
      ap f (sym (split x n))
      ∙ more n (x / 2 ^ n) (x % 2 ^ n) hd hm e (agree n (and_r b (same_at_powers f g n) t) (x % 2 ^ n) hm)
      ∙ ap g (split x n)
