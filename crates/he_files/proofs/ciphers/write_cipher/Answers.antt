use Rattle.noise_bound.specs.Value.{value}
use Rattle.he_files.proofs.CipherSteps.{cipher_text}
use Rattle.he_files.proofs.ciphers.write_cipher.Goals as goal

pub returns : goal.returns
returns c =
    let x = c.args.x.now in
    cipher_text c.args.header.now x.level (value x.bound) x.c0 x.c1 c.new-out.result.items c.put_header.new.out.items c.put_u32.new.out.items c.put_bound.new.out.items c.put_polynomial.new.out.items c.put_polynomial-2.new.out.items
    c.new-out.ensures.items c.in_ok-put_header.ensures c.in_ok-put_u32.ensures c.in_ok-put_bound.ensures c.in_ok-put_polynomial.ensures c.in_ok-put_polynomial-2.ensures
    x.rows x.alike.tables x.alike.chain_rows
