-- The moduli of the chain, one by one.
use Rattle.std.proofs.Common.{◌≡◌, ℕ, ◌<◌, ◌≤◌, length, get_or, map, take, sym, ap, ◌∙◌, arith}
use Rattle.std.proofs.lemmas.List.{get_or-map, get_or-take, length-take-le}
use Rattle.std.proofs.Math.ListN.{length-map, get_or-append}
use Rattle.moduli_table.specs.declared.rows.ModRow.{ModRow}
use Rattle.moduli_table.specs.Chain.{Chain, modulus_at, no_row}

pub moduli_length : (c : Chain) (count : ℕ) → count ≤ length c.chain → length (map (λ r. r.q) (take count c.chain)) ≡ count
moduli_length c count few = length-map (take count c.chain) (λ (r : ModRow). r.q) ∙ length-take-le count c.chain few

pub modulus_is : (c : Chain) (count i d : ℕ) → i < count → count ≤ length c.chain → get_or (map (λ r. r.q) (take count c.chain)) i d ≡ modulus_at c i
modulus_is c count i d lt few =
    let long = length-take-le count c.chain few in
    get_or-map (λ (r : ModRow). r.q) (take count c.chain) i no_row d (omega arith)
    ∙ ap (λ (r : ModRow). r.q) (get_or-take count c.chain i no_row lt ∙ sym (get_or-append c.chain c.special no_row i (omega arith)))
