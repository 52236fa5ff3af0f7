-- What a basis says of the modulus and the inverses at one place.
use Rattle.std.specs.Prelude.{◌≡◌, ℕ, suc, ◌*◌, ◌%◌, ◌<◌, All, List, [], ◌∷◌, length, map, take, get_or}
use Rattle.std.specs.List.{AllZip}
use Rattle.std.proofs.Common.{arith, sym, ◌∙◌, ap, subst}
use Rattle.std.proofs.lemmas.List.{get_or-map, get_or-take, length-take-le}
use Rattle.std.proofs.lemmas.List.Elements.{All-from_get_or, AllZip-get_or, length_all_zip}
use Rattle.mod_ring.specs.Zq.{modulus_of}
use Rattle.mixed_radix.specs.Basis.{Basis, IsBasis}
use Rattle.mixed_radix.specs.declared.radix.Place.{Place}

pub place_modulus : (ps : List Place) (j : ℕ) (p : Place) → j < length ps → p ≡ get_or ps j p → get_or (map (λ place. modulus_of place.ring) ps) j 0 ≡ modulus_of p.ring
place_modulus ps j p l e = get_or-map (λ (place : Place). modulus_of place.ring) ps j p 0 l ∙ ap (λ (place : Place). modulus_of place.ring) (sym e)

pub place_inverse : (ps : List Place) (j : ℕ) (p : Place) → j < length ps → p ≡ get_or ps j p → get_or (map (λ place. place.inverse.items) ps) j [] ≡ p.inverse.items
place_inverse ps j p l e = get_or-map (λ (place : Place). place.inverse.items) ps j p [] l ∙ ap (λ (place : Place). place.inverse.items) (sym e)

pub row_odd : (b : Basis) → IsBasis b → (j q : ℕ) → j < length b.moduli → get_or b.moduli j 0 ≡ q → q % 2 ≡ 1
row_odd b B j q l e = ap (λ z. z % 2) (sym e) ∙ B.odd j 0 l

pub row_long : (b : Basis) → IsBasis b → (j : ℕ) (es : List ℕ) → j < length b.moduli → get_or b.inverse j [] ≡ es → length es ≡ j
row_long b B j es l f = ap length (sym f) ∙ B.entries j l

pub row_in : (b : Basis) → IsBasis b → (j q : ℕ) (es : List ℕ) → j < length b.moduli → get_or b.moduli j 0 ≡ q → get_or b.inverse j [] ≡ es → All (λ e. e < q) es
row_in b B j q es l e f = All-from_get_or (λ e. e < q) es 0 (λ i m. at i (omega (arith, row_long b B j es l f)))
  where
    at : (i : ℕ) → i < j → get_or es i 0 < q
    at i m = subst (λ z. get_or z i 0 < q) f (subst (λ z. get_or (get_or b.inverse j []) i 0 < z) e (B.right i j m l).below)

zip_from_entries : (q : ℕ) (ks es : List ℕ) → length ks ≡ length es → ((i : ℕ) → i < length ks → (get_or ks i 0 * get_or es i 0) % q ≡ 1) → AllZip (λ k e. (k * e) % q ≡ 1) ks es
zip_from_entries q [] [] n h = tt
zip_from_entries q [] (e ∷ es) n h = absurd (omega arith)
zip_from_entries q (k ∷ ks) [] n h = absurd (omega arith)
zip_from_entries q (k ∷ ks) (e ∷ es) n h = (h 0 (omega arith), zip_from_entries q ks es (omega arith) (λ i l. h (suc i) (omega arith)))

pub row_right : (b : Basis) → IsBasis b → (j q : ℕ) (es : List ℕ) → j < length b.moduli → get_or b.moduli j 0 ≡ q → get_or b.inverse j [] ≡ es → AllZip (λ k e. (k * e) % q ≡ 1) (take j b.moduli) es
row_right b B j q es l e f = zip_from_entries q (take j b.moduli) es (long ∙ sym (row_long b B j es l f)) (λ i m. at i (omega (arith, long)))
  where
    long : length (take j b.moduli) ≡ j
    long = length-take-le j b.moduli (omega arith)

    at : (i : ℕ) → i < j → (get_or (take j b.moduli) i 0 * get_or es i 0) % q ≡ 1
    at i m = ap (λ z. (z * get_or es i 0) % q) (get_or-take j b.moduli i 0 m) ∙ subst (λ z. (get_or b.moduli i 0 * get_or z i 0) % q ≡ 1) f (subst (λ z. (get_or b.moduli i 0 * get_or (get_or b.inverse j []) i 0) % z ≡ 1) e (B.right i j m l).one)

pub row_below : (qs rs : List ℕ) (n j q : ℕ) → AllZip (λ q r. r < q) (take n qs) rs → j < n → j < length rs → get_or qs j 0 ≡ q → get_or rs j 0 < q
row_below qs rs n j q h m l e = subst (λ z. get_or rs j 0 < z) (get_or-take n qs j 0 m ∙ e) (AllZip-get_or (λ q r. r < q) (take n qs) rs j 0 0 h (omega (arith, length_all_zip (λ q r. r < q) (take n qs) rs h)))
