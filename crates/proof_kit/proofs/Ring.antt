-- A ring normaliser for ℤ: proves an identity of sums, differences and products of integers by computation. `search` writes a number as a
-- term over the listed variables (`Term`), and the term becomes a polynomial (`poly`) of the same value, by the ring laws. A polynomial with
-- only zero coefficients has the value 0, so the identity holds if that of the difference of its sides has.
-- Use: `ring (x ∷ y ∷ []) (search quote depth 40 fits 20000) tt : lhs ≡ rhs`. Assumes nothing.
use mathlib.Core.Path.{◌≡◌, refl, sym, ap, ap₂, ◌∙◌}
use mathlib.Core.Bool.{Bool, true, false, ◌&&◌}
use mathlib.Core.List.{List, [], ◌∷◌}
use Prim.Native.Nat.{ℕ, zero, suc}
use lib.Dec.{T, leb}
use lib.IntN.{ℤ, pos, negsuc, ◌+ℤ◌, ◌-ℤ◌, ◌*ℤ◌, neg_ℤ, +ℤ_idl, +ℤ_idr, +ℤ_assoc, +ℤ_comm, *ℤ_comm, zero-*ℤ, *ℤ-zero, +ℤ_invr, one, *ℤ-one}
use mir.Facts.{and_yes}
use Rattle.proof_kit.proofs.Laws.{*ℤ-assoc, *ℤ-distribˡ, *ℤ-distribʳ, negℤ-*ˡ, +ℤ-pairs, diff_zero}

-- ---- terms

-- x is one of the variables r
pub data At : List ℤ → ℤ → Type 0 where
  here : {x : ℤ} {r : List ℤ} → At (x ∷ r) x
  there : {x y : ℤ} {r : List ℤ} → At r x → At (y ∷ r) x

-- how the number is built from the variables r; `x -ℤ y` is `x +ℤ neg_ℤ y`. A numeral is a closed one: `leb n n` computes there, and `refl` shows it.
pub data Term (r : List ℤ) : ℤ → Type 0 where
  plus : {x y : ℤ} → Term r x → Term r y → Term r (x +ℤ y)
  times : {x y : ℤ} → Term r x → Term r y → Term r (x *ℤ y)
  neg : {x : ℤ} → Term r x → Term r (neg_ℤ x)
  var : {x : ℤ} → At r x → Term r x
  num : (n : ℕ) → leb n n ≡ true → Term r (pos n)
  num⁻ : (n : ℕ) → leb n n ≡ true → Term r (negsuc n)

pub ruleset quote = (plus, times, neg, var, here, there, num, num⁻)

-- ---- polynomials

-- `con c` is the number c. `node p q` is p times the first variable, plus q, which has the other variables alone.
pub data Poly : Type 0 where
  con : ℤ → Poly
  node : Poly → Poly → Poly

abbrev first : List ℤ → ℤ
first [] = pos 0
first (x ∷ r) = x

abbrev rest : List ℤ → List ℤ
rest [] = []
rest (x ∷ r) = r

value : List ℤ → Poly → ℤ
value r (con c) = c
value r (node p q) = value r p *ℤ first r +ℤ value (rest r) q

abbrev pub is_zero : ℤ → Bool
is_zero (pos zero) = true
is_zero (pos (suc n)) = false
is_zero (negsuc n) = false

abbrev pub add_con : ℤ → Poly → Poly
add_con c (con d) = con (c +ℤ d)
add_con c (node p q) = node p (add_con c q)

abbrev pub add : Poly → Poly → Poly
add (con c) s = add_con c s
add (node p q) (con d) = node p (add_con d q)
add (node p q) (node p' q') = node (add p p') (add q q')

abbrev pub scale : ℤ → Poly → Poly
scale c (con d) = con (c *ℤ d)
scale c (node p q) = node (scale c p) (scale c q)

-- f at s, without the walk where s is 0: f multiplies
abbrev pub low : (Poly → Poly) → Poly → Poly
low f (con c) = elim (is_zero c) [ true ↦ con (pos 0) | false ↦ f (con c) ]
low f (node p q) = f (node p q)

-- a polynomial of the other variables, as one of all
abbrev pub lift : Poly → Poly
lift (con c) = con c
lift (node p q) = node (con (pos 0)) (node p q)

-- f at the coefficient of each power of the first variable, a polynomial of the others
abbrev pub each : (Poly → Poly) → Poly → Poly
each f (con c) = lift (low f (con c))
each f (node p q) = node (each f p) (low f q)

abbrev pub mul : Poly → Poly → Poly
mul (con c) s = elim (is_zero c) [ true ↦ con (pos 0) | false ↦ scale c s ]
mul (node p q) s = add (node (mul p s) (con (pos 0))) (each (mul q) s)

abbrev pub variable : {r : List ℤ} {x : ℤ} → At r x → Poly
variable here = node (con (pos 1)) (con (pos 0))
variable (there a) = node (con (pos 0)) (variable a)

abbrev pub poly : {r : List ℤ} {z : ℤ} → Term r z → Poly
poly (plus a b) = add (poly a) (poly b)
poly (times a b) = mul (poly a) (poly b)
poly (neg a) = scale (negsuc 0) (poly a)
poly (var a) = variable a
poly (num n e) = con (pos n)
poly (num⁻ n e) = con (negsuc n)

abbrev pub all_zero : Poly → Bool
all_zero (con c) = is_zero c
all_zero (node p q) = all_zero p && all_zero q

-- ---- the value of each operation on polynomials is that of the operation on numbers

swap : (a b c : ℤ) → a +ℤ (b +ℤ c) ≡ b +ℤ (a +ℤ c)
swap a b c = sym (+ℤ_assoc a b c) ∙ ap (λ (z : ℤ). z +ℤ c) (+ℤ_comm a b) ∙ +ℤ_assoc b a c

-- a common factor of both parts of a node
factor : (a p f q : ℤ) → (a *ℤ p) *ℤ f +ℤ a *ℤ q ≡ a *ℤ (p *ℤ f +ℤ q)
factor a p f q = ap (λ (z : ℤ). z +ℤ a *ℤ q) (*ℤ-assoc a p f) ∙ sym (*ℤ-distribˡ a (p *ℤ f) q)

value_add_con : (r : List ℤ) (c : ℤ) (s : Poly) → value r (add_con c s) ≡ c +ℤ value r s
unfolding value
value_add_con r c (con d) = refl
value_add_con r c (node p q) =
    ap (λ (z : ℤ). value r p *ℤ first r +ℤ z) (value_add_con (rest r) c q) ∙ swap (value r p *ℤ first r) c (value (rest r) q)

value_add : (r : List ℤ) (s t : Poly) → value r (add s t) ≡ value r s +ℤ value r t
unfolding value
value_add r (con c) t = value_add_con r c t
value_add r (node p q) (con d) =
    ap (λ (z : ℤ). value r p *ℤ first r +ℤ z) (value_add_con (rest r) d q ∙ +ℤ_comm d (value (rest r) q))
    ∙ sym (+ℤ_assoc (value r p *ℤ first r) (value (rest r) q) d)
value_add r (node p q) (node p' q') =
    ap₂ (λ (x y : ℤ). x *ℤ first r +ℤ y) (value_add r p p') (value_add (rest r) q q')
    ∙ ap (λ (z : ℤ). z +ℤ (value (rest r) q +ℤ value (rest r) q')) (*ℤ-distribʳ (value r p) (value r p') (first r))
    ∙ +ℤ-pairs (value r p *ℤ first r) (value r p' *ℤ first r) (value (rest r) q) (value (rest r) q')

value_scale : (r : List ℤ) (c : ℤ) (s : Poly) → value r (scale c s) ≡ c *ℤ value r s
unfolding value
value_scale r c (con d) = refl
value_scale r c (node p q) =
    ap₂ (λ (x y : ℤ). x *ℤ first r +ℤ y) (value_scale r c p) (value_scale (rest r) c q)
    ∙ factor c (value r p) (first r) (value (rest r) q)

-- a shortcut taken where c is 0
shortcut :
    (r : List ℤ) (c z : ℤ) (s : Poly) →
    (c ≡ pos 0 → pos 0 ≡ z) →
    value r s ≡ z →
    value r (elim (is_zero c) [ true ↦ con (pos 0) | false ↦ s ]) ≡ z
unfolding value
shortcut r (pos zero) z s f g = f refl
shortcut r (pos (suc n)) z s f g = g
shortcut r (negsuc n) z s f g = g

value_low :
    (r : List ℤ) (a : ℤ) (f : Poly → Poly) (s : Poly) →
    ((t : Poly) → value r (f t) ≡ a *ℤ value r t) →
    value r (low f s) ≡ a *ℤ value r s
unfolding value
value_low r a f (con c) h = shortcut r c (a *ℤ c) (f (con c)) (λ e. sym (ap (λ (z : ℤ). a *ℤ z) e ∙ *ℤ-zero a)) (h (con c))
value_low r a f (node p q) h = h (node p q)

value_lift : (r : List ℤ) (s : Poly) → value r (lift s) ≡ value (rest r) s
unfolding value
value_lift r (con c) = refl
value_lift r (node p q) = ap (λ (z : ℤ). z +ℤ value (rest r) (node p q)) (zero-*ℤ (first r)) ∙ +ℤ_idl (value (rest r) (node p q))

value_each :
    (r : List ℤ) (a : ℤ) (f : Poly → Poly) (s : Poly) →
    ((t : Poly) → value (rest r) (f t) ≡ a *ℤ value (rest r) t) →
    value r (each f s) ≡ a *ℤ value r s
unfolding value
value_each r a f (con c) h = value_lift r (low f (con c)) ∙ value_low (rest r) a f (con c) h
value_each r a f (node p q) h =
    ap₂ (λ (x y : ℤ). x *ℤ first r +ℤ y) (value_each r a f p h) (value_low (rest r) a f q h)
    ∙ factor a (value r p) (first r) (value (rest r) q)

value_mul : (r : List ℤ) (s t : Poly) → value r (mul s t) ≡ value r s *ℤ value r t
unfolding value
value_mul r (con c) t =
    shortcut r c (c *ℤ value r t) (scale c t) (λ e. sym (ap (λ (z : ℤ). z *ℤ value r t) e ∙ zero-*ℤ (value r t))) (value_scale r c t)
value_mul r (node p q) t =
    let x = value r p in
    let y = value (rest r) q in
    let f = first r in
    let z = value r t in
    value_add r (node (mul p t) (con (pos 0))) (each (mul q) t)
    ∙ ap₂ ◌+ℤ◌ (+ℤ_idr (value r (mul p t) *ℤ f) ∙ ap (λ (w : ℤ). w *ℤ f) (value_mul r p t) ∙ turn x z f) (value_each r y (mul q) t (value_mul (rest r) q))
    ∙ sym (*ℤ-distribʳ (x *ℤ f) y z)
  where
    turn : (a b c : ℤ) → (a *ℤ b) *ℤ c ≡ (a *ℤ c) *ℤ b
    turn a b c = *ℤ-assoc a b c ∙ ap (λ (z : ℤ). a *ℤ z) (*ℤ_comm b c) ∙ sym (*ℤ-assoc a c b)

value_variable : {r : List ℤ} {x : ℤ} (a : At r x) → value r (variable a) ≡ x
unfolding value one
value_variable (here {x}) = +ℤ_idr (pos 1 *ℤ x) ∙ *ℤ_comm (pos 1) x ∙ *ℤ-one x
value_variable (there {x} {y} {r} a) = ap₂ ◌+ℤ◌ (zero-*ℤ y) (value_variable a) ∙ +ℤ_idl x

minus_one : (x : ℤ) → negsuc 0 *ℤ x ≡ neg_ℤ x
unfolding one
minus_one x = negℤ-*ˡ (pos 1) x ∙ ap neg_ℤ (*ℤ_comm (pos 1) x ∙ *ℤ-one x)

sound : {r : List ℤ} {z : ℤ} (t : Term r z) → value r (poly t) ≡ z
unfolding value
sound {r} (plus a b) = value_add r (poly a) (poly b) ∙ ap₂ ◌+ℤ◌ (sound a) (sound b)
sound {r} (times a b) = value_mul r (poly a) (poly b) ∙ ap₂ ◌*ℤ◌ (sound a) (sound b)
sound {r} (neg a) = value_scale r (negsuc 0) (poly a) ∙ minus_one (value r (poly a)) ∙ ap neg_ℤ (sound a)
sound (var a) = value_variable a
sound (num n e) = refl
sound (num⁻ n e) = refl

is_zero_zero : (c : ℤ) → T (is_zero c) → c ≡ pos 0
is_zero_zero (pos zero) t = refl
is_zero_zero (pos (suc n)) t = absurd t
is_zero_zero (negsuc n) t = absurd t

value_zero : (r : List ℤ) (s : Poly) → T (all_zero s) → value r s ≡ pos 0
unfolding value
value_zero r (con c) t = is_zero_zero c t
value_zero r (node p q) t =
    let b = and_yes (all_zero p) (all_zero q) t in
    ap₂ (λ (x y : ℤ). x *ℤ first r +ℤ y) (value_zero r p b.0) (value_zero (rest r) q b.1)
    ∙ ap (λ (z : ℤ). z +ℤ pos 0) (zero-*ℤ (first r))

-- ---- the tool

-- two numbers are equal if their difference, written over the variables r, has only zero coefficients
pub ring : (r : List ℤ) {x y : ℤ} (t : Term r (x -ℤ y)) → T (all_zero (poly t)) → x ≡ y
ring r {x} {y} t z = diff_zero x y (sym (sound t) ∙ value_zero r (poly t) z)

-- the same under an equation, which may be used any number k of times: x − y is k · (u − v)
pub ring_from : (r : List ℤ) (k : ℤ) {u v x y : ℤ} → u ≡ v → (t : Term r (x -ℤ y -ℤ k *ℤ (u -ℤ v))) → T (all_zero (poly t)) → x ≡ y
ring_from r k {u} {v} {x} {y} e t z =
    diff_zero x y (ring r t z ∙ ap (λ (w : ℤ). k *ℤ (w -ℤ v)) e ∙ ap (λ (w : ℤ). k *ℤ w) (+ℤ_invr v) ∙ *ℤ-zero k)
