-- The Chinese remainder law, coefficient by coefficient: rows of residues and one row modulo the product determine each other.
use Rattle.std.specs.Prelude.{◌≡◌, ℕ, zero, suc, ◌%◌, ◌<◌, All, List, [], ◌∷◌, map, length, get_or, drop, ℤ, refl}
use Rattle.std.specs.List.{AllZip}
use Rattle.std.proofs.Common.{arith, ap, ap₂}
use Rattle.std.proofs.lemmas.List.Elements.{All-nil, All-cons}
use Rattle.algebra.specs.Whole.{residue, product_of, AreInvertible, IsChinese, IsChineseRow}
use Rattle.algebra.proofs.WholeResidues.{same_residue, same_modulo}
use Rattle.algebra.proofs.Chinese.{same_product, same_each, product_positive, chinese}

-- the same residues modulo each: the same residue modulo the product
pub residues_product : (qs : List ℕ) (x y : ℤ) → AreInvertible qs → All (λ q. 0 < q) qs → All (λ q. residue q x ≡ residue q y) qs → residue (product_of qs) x ≡ residue (product_of qs) y
residues_product qs x y m h e = same_residue (product_of qs) (product_positive qs h) x y (same_product qs x y m (λ k d l. same_modulo (get_or qs k d) (h k d l) x y (e k d l)))

-- and the other way round
pub residues_each : (qs : List ℕ) (x y : ℤ) → All (λ q. 0 < q) qs → residue (product_of qs) x ≡ residue (product_of qs) y → All (λ q. residue q x ≡ residue q y) qs
residues_each qs x y h e k d l = same_residue (get_or qs k d) (h k d l) x y (same_each qs x y (same_modulo (product_of qs) (product_positive qs h) x y e) k d l)

first_of_list : {X : Type 0} (a b : X) (f g : List X) → a ∷ f ≡ b ∷ g → a ≡ b
first_of_list a b f g e = cc

rest_of_list : {X : Type 0} (a b : X) (f g : List X) → a ∷ f ≡ b ∷ g → f ≡ g
rest_of_list a b f g e = cc

-- rows that agree modulo each agree modulo the product
pub rows_product : (qs : List ℕ) (f g : List ℤ) → length f ≡ length g → AreInvertible qs → All (λ q. 0 < q) qs → All (λ q. map (residue q) f ≡ map (residue q) g) qs → map (residue (product_of qs)) f ≡ map (residue (product_of qs)) g
rows_product qs [] [] l m h e = refl
rows_product qs [] (b ∷ g) l m h e = absurd (omega arith)
rows_product qs (a ∷ f) [] l m h e = absurd (omega arith)
rows_product qs (a ∷ f) (b ∷ g) l m h e = ap₂ (λ x y. x ∷ y) (residues_product qs a b m h (λ k d i. first_of_list (residue (get_or qs k d) a) (residue (get_or qs k d) b) (map (residue (get_or qs k d)) f) (map (residue (get_or qs k d)) g) (e k d i))) (rows_product qs f g (omega arith) m h (λ k d i. rest_of_list (residue (get_or qs k d) a) (residue (get_or qs k d) b) (map (residue (get_or qs k d)) f) (map (residue (get_or qs k d)) g) (e k d i)))

pub rows_each : (qs : List ℕ) (f g : List ℤ) → length f ≡ length g → All (λ q. 0 < q) qs → map (residue (product_of qs)) f ≡ map (residue (product_of qs)) g → All (λ q. map (residue q) f ≡ map (residue q) g) qs
rows_each qs [] [] l h e k d i = refl
rows_each qs [] (b ∷ g) l h e k d i = absurd (omega arith)
rows_each qs (a ∷ f) [] l h e k d i = absurd (omega arith)
rows_each qs (a ∷ f) (b ∷ g) l h e k d i = ap₂ (λ x y. x ∷ y) (residues_each qs a b h (first_of_list (residue (product_of qs) a) (residue (product_of qs) b) (map (residue (product_of qs)) f) (map (residue (product_of qs)) g) e) k d i) (rows_each qs f g (omega arith) h (rest_of_list (residue (product_of qs) a) (residue (product_of qs) b) (map (residue (product_of qs)) f) (map (residue (product_of qs)) g) e) k d i)

-- rows of n residues below the moduli are those of some row of n numbers below the product
pub chinese_rows : (n : ℕ) (qs : List ℕ) (rows : List (List ℕ)) → AreInvertible qs → AllZip (λ q row. (length row ≡ n) × All (λ c. c < q) row) qs rows → (f : List ℕ) × (length f ≡ n) × IsChineseRow qs rows f
chinese_rows zero qs rows m h = ([], refl, record { small = All-nil (λ c. c < product_of qs); residues = empty qs rows h })
  where
    none : (row : List ℕ) → length row ≡ 0 → [] ≡ row
    none [] e = refl
    none (c ∷ row) e = absurd (omega arith)

    empty : (qs : List ℕ) (rows : List (List ℕ)) → AllZip (λ q row. (length row ≡ 0) × All (λ c. c < q) row) qs rows → AllZip (λ q row. map (λ c. c % q) [] ≡ row) qs rows
    empty [] [] h = tt
    empty [] (row ∷ rows) h = absurd h
    empty (q ∷ qs) [] h = absurd h
    empty (q ∷ qs) (row ∷ rows) h = (none row h.0.0, empty qs rows h.1)
chinese_rows (suc n) qs rows m h = go (chinese qs (map first rows) m (firsts qs rows h)) (chinese_rows n qs (map (drop 1) rows) m (rests qs rows h))
  where
    first : List ℕ → ℕ
    first row = get_or row 0 0

    firsts : (qs : List ℕ) (rows : List (List ℕ)) → AllZip (λ q row. (length row ≡ suc n) × All (λ c. c < q) row) qs rows → AllZip (λ q r. r < q) qs (map first rows)
    firsts [] [] h = tt
    firsts [] (row ∷ rows) h = absurd h
    firsts (q ∷ qs) [] h = absurd h
    firsts (q ∷ qs) (row ∷ rows) h = (h.0.1 0 0 (omega (arith, h.0.0)), firsts qs rows h.1)

    rest : (q : ℕ) (row : List ℕ) → length row ≡ suc n → All (λ c. c < q) row → (length (drop 1 row) ≡ n) × All (λ c. c < q) (drop 1 row)
    rest q [] e h = absurd (omega arith)
    rest q (c ∷ row) e h = (omega arith, λ k d l. h (suc k) d (omega arith))

    rests : (qs : List ℕ) (rows : List (List ℕ)) → AllZip (λ q row. (length row ≡ suc n) × All (λ c. c < q) row) qs rows → AllZip (λ q row. (length row ≡ n) × All (λ c. c < q) row) qs (map (drop 1) rows)
    rests [] [] h = tt
    rests [] (row ∷ rows) h = absurd h
    rests (q ∷ qs) [] h = absurd h
    rests (q ∷ qs) (row ∷ rows) h = (rest q row h.0.0 h.0.1, rests qs rows h.1)

    whole : (x q : ℕ) (f row : List ℕ) → length row ≡ suc n → x % q ≡ first row → map (λ c. c % q) f ≡ drop 1 row → x % q ∷ map (λ c. c % q) f ≡ row
    whole x q f [] e a b = absurd (omega arith)
    whole x q f (c ∷ row) e a b = ap₂ (λ y z. y ∷ z) a b

    both : (x : ℕ) (f : List ℕ) (qs : List ℕ) (rows : List (List ℕ)) → AllZip (λ q row. (length row ≡ suc n) × All (λ c. c < q) row) qs rows → AllZip (λ q r. x % q ≡ r) qs (map first rows) → AllZip (λ q row. map (λ c. c % q) f ≡ row) qs (map (drop 1) rows) → AllZip (λ q row. map (λ c. c % q) (x ∷ f) ≡ row) qs rows
    both x f [] [] h a b = tt
    both x f [] (row ∷ rows) h a b = absurd h
    both x f (q ∷ qs) [] h a b = absurd h
    both x f (q ∷ qs) (row ∷ rows) h a b = (whole x q f row h.0.0 a.0 b.0, both x f qs rows h.1 a.1 b.1)

    go : (x : ℕ) × IsChinese qs (map first rows) x → (f : List ℕ) × (length f ≡ n) × IsChineseRow qs (map (drop 1) rows) f → (f : List ℕ) × (length f ≡ suc n) × IsChineseRow qs rows f
    go (x, X) (f, e, F) = (x ∷ f, ap suc e, record { small = All-cons (λ c. c < product_of qs) x f X.small F.small; residues = both x f qs rows h X.residues F.residues })
