use Rattle.std.proofs.Common.{◌≡◌, ◌≤◌, length, drop, take, map}
use Rattle.he_files.specs.Form.{several, each_at}
use Rattle.he_files.specs.Polynomial.{residue}
use Rattle.he_files.proofs.Loops.{with_front}
use Rattle.he_files.proofs.polynomials.rows_at.Given as goal

-- what was read and what is still read are the rows, and the offset is in the file
abbrev pub invariant-loop-i : goal.invariant-loop-i
invariant-loop-i l =
    let qs = map (λ r. r.q) (take l.count l.moduli.chain) in
    record {
      told : with_front (map (λ row. row.items) l.rows.items) (each_at (λ q. several l.n (residue q)) (drop l.i qs) l.bytes l.at) ≡ each_at (λ q. several l.n (residue q)) qs l.bytes l.fn.at;
      inside : l.at ≤ length l.bytes;
    }
