use Rattle.std.proofs.Common.{◌≡◌, arith, ap}
use Rattle.cipher_core.specs.Shown.{setting_of}
use Rattle.cli_session.proofs.Quiet.{passes, refuses}
use Rattle.cli_session.proofs.Rooms.{cipher_room}
use Rattle.cli_session.proofs.ciphers.sealed.Goals as goal

pub encrypt-requires-clause-room : goal.encrypt-requires-clause-room
encrypt-requires-clause-room c =
    let start : c.new.result.place ≡ 0 = ap (λ s. s.place) c.new.ensures in
    omega (arith, start, cipher_room c.law_degree_is_units.ensures (setting_of c.args.scheme.now) c.requires.scheme)

pub returns-in-Ok-clause-quiet : goal.returns-in-Ok-clause-quiet
returns-in-Ok-clause-quiet c = passes c.args.scheme.now.tables.value c.in-Ok.ensures.quiet

pub returns-in-Err-TooNoisy-clause-noisy : goal.returns-in-Err-TooNoisy-clause-noisy
returns-in-Err-TooNoisy-clause-noisy c none =
    let noisy = rw c.in-Err-TooNoisy.field-0-is at (c.in-Err-TooNoisy.ensures.noisy) in
    refuses c.law_bound_of.ensures.back c.args.scheme.now.tables.value c.in-Err-TooNoisy.bound c.in-Err-TooNoisy.limit noisy.0 noisy.1 noisy.2
