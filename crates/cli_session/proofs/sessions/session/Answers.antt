use Rattle.std.proofs.Common.{map, string_bytes}
use Rattle.cli_machine.specs.Clauses.{outcome_of}
use Rattle.plain_machine.specs.PlainState.{nothing}
use Rattle.plain_machine.specs.Carrying.{reached}
use Rattle.cli_session.proofs.Headline.{headline}
use Rattle.cli_session.proofs.sessions.session.Goals as goal

pub returns-clause-clear : goal.returns-clause-clear
returns-clause-clear g c shelf_tells sink_tells =
    let shown = rw c.as_slice.ensures.value at (c.one_line.ensures.shows shelf_tells sink_tells) in
    headline (map string_bytes c.args.words.now.items) (g.S.Shelf.files c.args.shelf.now) c.one_line.result
    (g.O.Sink.bytes c.args.out.now) (g.O.Sink.bytes c.one_line.new.out) shown

pub returns-clause-carries : goal.returns-clause-carries
returns-clause-carries g c shelf_tells history start none led =
    let words = map string_bytes c.args.words.now.items in
    let old = g.S.Shelf.files c.args.shelf.now in
    let new = g.S.Shelf.files c.one_line.new.shelf in
    c.law_carrying.ensures words (outcome_of c.one_line.result) (reached history start nothing) old new
    (c.law_history.ensures history start old none led)
    (rw c.as_slice.ensures.value at (c.one_line.ensures.leaves shelf_tells))

pub returns-clause-decrypts : goal.returns-clause-decrypts
returns-clause-decrypts g c shelf_tells sink_tells history start none led =
    let words = map string_bytes c.args.words.now.items in
    let files = g.S.Shelf.files c.args.shelf.now in
    c.law_decrypts.ensures words c.one_line.result (reached history start nothing) files
    (g.O.Sink.bytes c.args.out.now) (g.O.Sink.bytes c.one_line.new.out)
    (c.law_history.ensures history start files none led)
    (rw c.as_slice.ensures.value at (c.one_line.ensures.shows shelf_tells sink_tells))
