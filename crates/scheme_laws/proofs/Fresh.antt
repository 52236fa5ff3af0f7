-- A fresh ciphertext stands for its array.
use Rattle.std.specs.Prelude.{◌≡◌, ℕ, suc, ◌+◌ as ◌+ₙ◌, ◌*◌ as ◌*ₙ◌, ◌/◌, ◌<◌ as ◌<ₙ◌, ◌≤◌, List, [], ◌∷◌, length, map, ℤ, pos, nat_abs, ◌+ℤ◌, ◌*ℤ◌, refl}
use Rattle.std.proofs.Common.{arith, sym, ◌∙◌, ap, ap₂, subst}
use Rattle.std.proofs.lemmas.List.{length-map, ext_get_or}
use Rattle.algebra.specs.Ring.{Ops, CommRing, whole_numbers}
use Rattle.algebra.specs.Expression.{◌:+◌, ◌:*◌, minus, var}
use Rattle.algebra.specs.Poly.{coeff, times}
use Rattle.algebra.specs.Whole.{residue}
use Rattle.algebra.proofs.Integers.{whole_ring}
use Rattle.algebra.proofs.Lists.{length-plus, coeff-plus, coeff-scaled}
use Rattle.algebra.proofs.Maps.{map_coeff}
use Rattle.algebra.proofs.Solver.{env, solve}
use Rattle.algebra.proofs.WholeResidues.{residue_preserves, same_residue}
use Rattle.cyclotomic.specs.Cyclotomic.{R, IsElement, multiple}
use Rattle.cyclotomic.specs.Norm.{one_norm, NormAtMost}
use Rattle.cyclotomic.proofs.NormLists.{own_bounded, sum_bounded, product_bounded, multiple_bounded, bounds_grow}
use Rattle.cyclotomic.proofs.RingR.{fold_element}
use Rattle.draw_stream.specs.Draw.{errors_at, smalls_at}
use Rattle.noise_bound.specs.Machine.{Sizes, fresh}
use Rattle.noise_bound.proofs.RoundingLaws.{le-up}
use Rattle.slot_array.specs.Arrays.{Array, IsArray}
use Rattle.slot_laws.specs.Slots.{slots, encode}
use Rattle.slot_laws.proofs.Encoding.{encodes_slots}
use Rattle.slot_laws.proofs.SlotMaps.{slots_see}
use Rattle.residue_rows.specs.Rows.{AreRows}
use Rattle.residue_rows.specs.RowLaws.{ResiduesKeep}
use Rattle.residue_rows.proofs.RowsResidues.{multiple-plus, multiple-mul}
use Rattle.scheme_laws.specs.Scheme.{SchemeSetting, IsScheme, sizes_of, top, moduli_at, ring_at, rows_at}
use Rattle.scheme_laws.specs.Keys.{PublicKey, n_of, IsSecret, IsError, IsPublicOf}
use Rattle.scheme_laws.specs.Ciphers.{IsCipher, IsSmall, encrypted, opened_rows, Stands}
use Rattle.scheme_laws.specs.SchemeLaws.{NormCounts, PublicPartIsWhole, FreshStands, DrawnStands}
use Rattle.scheme_laws.proofs.LevelRows.{m_some, top_fits, keep, Level, held, rows_of_held, at}
use Rattle.scheme_laws.proofs.NormCounts.{counts, p_same, encoded_element}
use Rattle.scheme_laws.proofs.Drawn.{drawn_small, drawn_error}

-- ---- elements of R
module _ (m : ℕ) where
  sum_element : (a b : List ℤ) → IsElement m a → IsElement m b → IsElement m ((R m).add a b)
  sum_element a b e f = omega (arith, length-plus whole_numbers a b, e, f)

  product_element : (a b : List ℤ) → IsElement m ((R m).mul a b)
  product_element a b = fold_element m (times whole_numbers a b)

  multiple_element : (k : ℤ) (a : List ℤ) → IsElement m a → IsElement m (multiple k a)
  multiple_element k a e = length-map a (whole_numbers.mul k) ∙ e

  negative_element : (a : List ℤ) → IsElement m a → IsElement m ((R m).neg a)
  negative_element a e = length-map a whole_numbers.neg ∙ e

-- a multiple of p that is added changes no residue modulo p
residues_added : (p m : ℕ) → 0 <ₙ p → (w x : List ℤ) → IsElement m w → IsElement m x → map (residue p) ((R m).add (multiple (pos p) w) x) ≡ map (residue p) x
residues_added p m positive w x e f = ext_get_or 0 (map (residue p) ((R m).add (multiple (pos p) w) x)) (map (residue p) x) long (λ i l. sym (map_coeff (residue_preserves p positive) ((R m).add (multiple (pos p) w) x) i) ∙ same_residue p positive (coeff whole_numbers ((R m).add (multiple (pos p) w) x) i) (coeff whole_numbers x i) (coeff whole_numbers w i, coefficient i) ∙ map_coeff (residue_preserves p positive) x i)
  where
    long : length (map (residue p) ((R m).add (multiple (pos p) w) x)) ≡ length (map (residue p) x)
    long = length-map ((R m).add (multiple (pos p) w) x) (residue p) ∙ sum_element m (multiple (pos p) w) x (multiple_element m (pos p) w e) f ∙ sym f ∙ sym (length-map x (residue p))

    coefficient : (i : ℕ) → coeff whole_numbers ((R m).add (multiple (pos p) w) x) i ≡ coeff whole_numbers x i +ℤ pos p *ℤ coeff whole_numbers w i
    coefficient i = coeff-plus whole_ring (multiple (pos p) w) x i ∙ ap (λ z. z +ℤ coeff whole_numbers x i) (coeff-scaled whole_ring (pos p) w i) ∙ whole_ring.add_comm (pos p *ℤ coeff whole_numbers w i) (coeff whole_numbers x i)

pub public_part_is_whole : PublicPartIsWhole
public_part_is_whole r S s a e s_in a_in e_in = sym (K.operations.keeps_add ((R m).neg ((R m).mul a s)) (multiple p e) ∙ ap₂ (ring_at r (top r)).add (K.operations.keeps_neg ((R m).mul a s) ∙ ap (ring_at r (top r)).neg (K.operations.keeps_mul a s)) (K.multiples p e))
  where
    m : ℕ
    m = r.moduli.m

    p : ℤ
    p = pos r.moduli.p

    K : ResiduesKeep r.moduli.m (moduli_at r (top r))
    K = keep r S (top r) (top_fits r S)

-- the bound of fresh ciphertexts
fresh_above : (z : Sizes) → z.p *ₙ (10 *ₙ z.n *ₙ z.n +ₙ 10 *ₙ z.n +ₙ 10 *ₙ z.n *ₙ z.weight) +ₙ z.n *ₙ (z.p / 2) ≤ fresh z
unfolding fresh
fresh_above z = omega (arith, le-up (z.n *ₙ (z.p / 2) +ₙ z.p *ₙ (10 *ₙ z.n *ₙ z.n +ₙ 10 *ₙ z.n +ₙ 10 *ₙ z.n *ₙ z.weight)))

module _ (t : SchemeSetting) (T : IsScheme t) (s : List ℤ) (key : PublicKey) (r e0 e1 : List ℤ) (x : Array) (S : IsSecret t.ring s) (P : IsPublicOf t.ring s key) (r_small : IsSmall t r) (E0 : IsError t.ring e0) (E1 : IsError t.ring e1) where
  abbrev m : ℕ
  m = t.ring.moduli.m

  abbrev p : ℤ
  p = pos t.ring.moduli.p

  some : 0 <ₙ m
  some = m_some t.ring T.setting

  abbrev l : ℕ
  l = top t.ring

  fits : suc (top t.ring) ≤ length t.ring.moduli.chain
  fits = top_fits t.ring T.setting

  abbrev o : Ops (List (List ℕ))
  o = ring_at t.ring l

  abbrev K : ResiduesKeep t.ring.moduli.m (moduli_at t.ring (top t.ring))
  K = keep t.ring T.setting l fits

  abbrev Q : CommRing
  Q = Level t.ring T.setting l fits

  abbrev whole : (a : List ℤ) → IsElement m a → Q.Carrier
  whole = at t.ring T.setting l fits

  encoded : List ℤ
  encoded = encode t.field t.cube x

  encoded_in : IsElement m encoded
  unfolding encoded
  encoded_in = encoded_element t T x

  abbrev p_whole : (a : List ℤ) → IsElement m a → Q.Carrier
  p_whole a e = whole (multiple p a) (multiple_element m p a e)

  abbrev a : Q.Carrier
  a = held t.ring T.setting l fits key.a P.rows_in

  abbrev b : Q.Carrier
  b = Q.add (Q.neg (Q.mul a (whole s S.len))) (p_whole P.e P.error.long)

  b_is : key.b ≡ b.0
  b_is = P.equation ∙ ap (o.add (o.neg (o.mul key.a (rows_at t.ring l s)))) (sym (K.multiples p P.e))

  abbrev c0 : Q.Carrier
  c0 = Q.add (Q.add (Q.mul b (whole r r_small.long)) (p_whole e0 E0.long)) (whole encoded encoded_in)

  abbrev c1 : Q.Carrier
  c1 = Q.add (Q.mul a (whole r r_small.long)) (p_whole e1 E1.long)

  c0_is : (encrypted t key r e0 e1 x).c0 ≡ c0.0
  unfolding encoded
  c0_is = ap₂ (λ y z. o.add (o.add (o.mul y (rows_at t.ring l r)) z) (rows_at t.ring l encoded)) b_is (sym (K.multiples p e0))

  c1_is : (encrypted t key r e0 e1 x).c1 ≡ c1.0
  c1_is = ap (o.add (o.mul key.a (rows_at t.ring l r))) (sym (K.multiples p e1))

  pub is_cipher : IsCipher t (encrypted t key r e0 e1 x)
  is_cipher = record {
    level_in = fits;
    c0_in = subst (AreRows m (moduli_at t.ring l)) (sym c0_is) (rows_of_held t.ring T.setting l fits c0);
    c1_in = subst (AreRows m (moduli_at t.ring l)) (sym c1_is) (rows_of_held t.ring T.setting l fits c1);
  }

  -- e*r + e0 + e1*s
  noise : List ℤ
  noise = (R m).add ((R m).add ((R m).mul P.e r) e0) ((R m).mul e1 s)

  noise_in : IsElement m noise
  unfolding noise
  noise_in = sum_element m ((R m).add ((R m).mul P.e r) e0) ((R m).mul e1 s) (sum_element m ((R m).mul P.e r) e0 (product_element m P.e r) E0.long) (product_element m e1 s)

  value : List ℤ
  value = (R m).add (multiple p noise) encoded

  value_in : IsElement m value
  unfolding value
  value_in = sum_element m (multiple p noise) encoded (multiple_element m p noise noise_in) encoded_in

  -- p times it, term by term
  p_noise : multiple p noise ≡ (R m).add ((R m).add ((R m).mul (multiple p P.e) r) (multiple p e0)) ((R m).mul (multiple p e1) s)
  unfolding noise
  p_noise = multiple-plus p ((R m).add ((R m).mul P.e r) e0) ((R m).mul e1 s) ∙ ap₂ (R m).add (multiple-plus p ((R m).mul P.e r) e0 ∙ ap (λ z. (R m).add z (multiple p e0)) (multiple-mul m some p P.e r)) (multiple-mul m some p e1 s)

  -- what is left of c0 + c1*s
  abbrev left_rows : Q.Carrier
  left_rows = Q.add (Q.add (Q.add (Q.mul (p_whole P.e P.error.long) (whole r r_small.long)) (p_whole e0 E0.long)) (Q.mul (p_whole e1 E1.long) (whole s S.len))) (whole encoded encoded_in)

  cancelled : Q.add c0 (Q.mul c1 (whole s S.len)) ≡ left_rows
  cancelled = solve Q (env a (a ∷ whole s S.len ∷ whole r r_small.long ∷ p_whole P.e P.error.long ∷ p_whole e0 E0.long ∷ p_whole e1 E1.long ∷ whole encoded encoded_in ∷ [])) ((minus (var 0 :* var 1) :+ var 3) :* var 2 :+ var 4 :+ var 6 :+ (var 0 :* var 2 :+ var 5) :* var 1) (var 3 :* var 2 :+ var 4 :+ var 5 :* var 1 :+ var 6) refl

  value_rows : rows_at t.ring l value ≡ left_rows.0
  unfolding value
  value_rows = ap (λ z. rows_at t.ring l ((R m).add z encoded)) p_noise ∙ K.operations.keeps_add ((R m).add ((R m).add ((R m).mul (multiple p P.e) r) (multiple p e0)) ((R m).mul (multiple p e1) s)) encoded ∙ ap (λ z. o.add z (rows_at t.ring l encoded)) (K.operations.keeps_add ((R m).add ((R m).mul (multiple p P.e) r) (multiple p e0)) ((R m).mul (multiple p e1) s) ∙ ap₂ o.add (K.operations.keeps_add ((R m).mul (multiple p P.e) r) (multiple p e0) ∙ ap (λ z. o.add z (rows_at t.ring l (multiple p e0))) (K.operations.keeps_mul (multiple p P.e) r)) (K.operations.keeps_mul (multiple p e1) s))

  opens : opened_rows t s (encrypted t key r e0 e1 x) ≡ rows_at t.ring l value
  opens = ap₂ (λ y z. o.add y (o.mul z (rows_at t.ring l s))) c0_is c1_is ∙ ap (λ z. z.0) cancelled ∙ sym value_rows

  N : NormCounts t
  N = counts t T

  bounded : (f : List ℤ) (B : ℕ) → IsElement m f → one_norm f ≤ B → NormAtMost m f B
  bounded f B e h = bounds_grow m f (one_norm f) B h (own_bounded m f some e)

  norm : NormAtMost m value (fresh (sizes_of t.ring))
  unfolding value noise encoded
  norm = bounds_grow m value (nat_abs p *ₙ (10 *ₙ n_of t.ring *ₙ n_of t.ring +ₙ 10 *ₙ n_of t.ring +ₙ 10 *ₙ n_of t.ring *ₙ t.ring.weight) +ₙ n_of t.ring *ₙ (t.ring.moduli.p / 2)) (fresh (sizes_of t.ring)) (fresh_above (sizes_of t.ring)) (sum_bounded m (multiple p noise) encoded (nat_abs p *ₙ (10 *ₙ n_of t.ring *ₙ n_of t.ring +ₙ 10 *ₙ n_of t.ring +ₙ 10 *ₙ n_of t.ring *ₙ t.ring.weight)) (n_of t.ring *ₙ (t.ring.moduli.p / 2)) some (multiple_bounded m p noise (10 *ₙ n_of t.ring *ₙ n_of t.ring +ₙ 10 *ₙ n_of t.ring +ₙ 10 *ₙ n_of t.ring *ₙ t.ring.weight) some noise_bounded) (bounded encoded (n_of t.ring *ₙ (t.ring.moduli.p / 2)) encoded_in (N.encoded x)))
    where
      noise_bounded : NormAtMost m noise (10 *ₙ n_of t.ring *ₙ n_of t.ring +ₙ 10 *ₙ n_of t.ring +ₙ 10 *ₙ n_of t.ring *ₙ t.ring.weight)
      noise_bounded = sum_bounded m ((R m).add ((R m).mul P.e r) e0) ((R m).mul e1 s) (10 *ₙ n_of t.ring *ₙ n_of t.ring +ₙ 10 *ₙ n_of t.ring) (10 *ₙ n_of t.ring *ₙ t.ring.weight) some (sum_bounded m ((R m).mul P.e r) e0 (10 *ₙ n_of t.ring *ₙ n_of t.ring) (10 *ₙ n_of t.ring) some (product_bounded m P.e r (10 *ₙ n_of t.ring) (n_of t.ring) some (bounded P.e (10 *ₙ n_of t.ring) P.error.long (N.error P.e P.error)) (bounded r (n_of t.ring) r_small.long (N.small r r_small))) (bounded e0 (10 *ₙ n_of t.ring) E0.long (N.error e0 E0))) (product_bounded m e1 s (10 *ₙ n_of t.ring) t.ring.weight some (bounded e1 (10 *ₙ n_of t.ring) E1.long (N.error e1 E1)) (subst (NormAtMost m s) (N.secret s S) (own_bounded m s some S.len)))

  same_slots : slots t.field t.cube value ≡ slots t.field t.cube (encode t.field t.cube x)
  unfolding value encoded
  same_slots = (slots_see t.field t.cube T.packing).residues value encoded (subst (λ q. map (residue q) value ≡ map (residue q) encoded) (sym (p_same t T)) (residues_added t.ring.moduli.p m (omega (arith, T.setting.accepted.shaped.p_low)) noise encoded noise_in encoded_in))

  pub stands : IsArray t.field t.cube x → Stands t s (encrypted t key r e0 e1 x) x
  stands X = record { value = value; element = value_in; opens = opens; holds = same_slots ∙ (encodes_slots t.field t.cube T.packing).back x X; norm = norm }

pub fresh_stands : FreshStands
fresh_stands t T s key r e0 e1 x S P r_small E0 E1 X = (is_cipher t T s key r e0 e1 x S P r_small E0 E1, stands t T s key r e0 e1 x S P r_small E0 E1 X)

pub drawn_stands : DrawnStands
drawn_stands t T s key stream x S P X = fresh_stands t T s key (smalls_at stream stream.place n) (errors_at stream (stream.place +ₙ n) n) (errors_at stream (stream.place +ₙ 2 *ₙ n) n) x S P (drawn_small t stream stream.place) (drawn_error t.ring stream (stream.place +ₙ n)) (drawn_error t.ring stream (stream.place +ₙ 2 *ₙ n)) X
  where
    n : ℕ
    n = n_of t.ring
