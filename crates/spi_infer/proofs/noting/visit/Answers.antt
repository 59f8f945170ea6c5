use Rattle.std.proofs.Common.{length, ap, arith}
use Rattle.spi_term.specs.View.{shape_of}
use Rattle.spi_intern.proofs.Meanings.{terms_more}
use Rattle.spi_infer.specs.Passes.{settled, left_waiting, note_of}
use Rattle.spi_message.proofs.Tested.{env_kept, stands_kept}
use Rattle.spi_infer.proofs.Queues.{waiting_keeps}
use Rattle.spi_infer.proofs.Bound.{above_more, above_kept}
use Rattle.spi_count.proofs.Kept.{kept_as, grows_store, grows_more}
use Rattle.spi_infer.proofs.Kept.{noted_keeps}
use Rattle.spi_infer.proofs.Numbers.{numbers_keep}
use Rattle.spi_infer.proofs.noting.visit.Goals as goal

pub own_note-requires-clause-keys : goal.own_note-requires-clause-keys
own_note-requires-clause-keys c = kept_as c.args.keys.now (terms_more c.settle.ensures.store c.in_ok-terms.ensures.kept.store) c.requires.keys

pub own_note-requires-clause-names : goal.own_note-requires-clause-names
own_note-requires-clause-names c =
    env_kept {j = c.settle.new.judge} {k = c.terms_of.new.judge} c.in_ok-terms.ensures.kept record {
      env = settled c.args.id c.args.node.now.scope c.requires.names.env c.requires.low.waits;
      stands = (c.in_ok-settle.ensures.bound c.requires.low.waits c.requires.low.queued).at c.requires.names.env c.requires.names.stands;
    }

pub own_note-requires-clause-room : goal.own_note-requires-clause-room
own_note-requires-clause-room c = omega (arith, ap length c.in_ok-terms.ensures.kept.types, c.in_ok-settle.ensures.few)

pub enter-requires-clause-room : goal.enter-requires-clause-room
enter-requires-clause-room c =
    omega (arith, ap length c.in_ok-note.ensures.kept.types, ap length c.in_ok-terms.ensures.kept.types, c.in_ok-settle.ensures.few)

pub enter-requires-clause-terms : goal.enter-requires-clause-terms
enter-requires-clause-terms c = numbers_keep {j = c.terms_of.new.judge} {k = c.own_note.new.judge} _ c.in_ok-terms.terms c.in_ok-note.ensures.kept.store c.in_ok-terms.ensures.terms

pub returns-clause-note : goal.returns-clause-note
returns-clause-note c ws h =
    let g = grows_store {s = c.own_note.new.judge.store} {r = c.enter.new.judge.store} {ks = c.own_note.new.keys} c.in_ok-enter.ensures.above.store c.in_ok-note.ensures.grows.are in
    let b = c.in_ok-settle.ensures.bound ws h in
    record {
      noted = λ e s. noted_keeps g (shape_of c.args.node.now) (note_of (settled c.args.id c.args.node.now.scope e ws) (shape_of c.args.node.now)) c.in_ok-note.note (c.in_ok-note.ensures.note.at (settled c.args.id c.args.node.now.scope e ws) (stands_kept {j = c.settle.new.judge} {k = c.terms_of.new.judge} c.in_ok-terms.ensures.kept (b.at e s)));
      enters = λ e s. c.in_ok-enter.ensures.bound.at (settled c.args.id c.args.node.now.scope e ws) (stands_kept {j = c.terms_of.new.judge} {k = c.own_note.new.judge} c.in_ok-note.ensures.kept (stands_kept {j = c.settle.new.judge} {k = c.terms_of.new.judge} c.in_ok-terms.ensures.kept (b.at e s)));
    }

pub returns-clause-rest : goal.returns-clause-rest
returns-clause-rest c ws h =
    let k = terms_more c.in_ok-note.ensures.kept.store c.in_ok-enter.ensures.above.store in
    c.in_ok-put_off.ensures c.enter.new.judge (left_waiting c.args.id ws) (numbers_keep {j = c.terms_of.new.judge} {k = c.enter.new.judge} _ c.in_ok-terms.terms k c.in_ok-terms.ensures.terms) (waiting_keeps (terms_more c.in_ok-terms.ensures.kept.store k) (c.in_ok-settle.ensures.rest ws h))

pub returns-clause-grows : goal.returns-clause-grows
returns-clause-grows c =
    grows_more (grows_store {ks = c.args.keys.now} (terms_more c.settle.ensures.store c.in_ok-terms.ensures.kept.store) c.requires.keys) (grows_more c.in_ok-note.ensures.grows (grows_store {ks = c.own_note.new.keys} c.in_ok-enter.ensures.above.store c.in_ok-note.ensures.grows.are))

pub returns-clause-above : goal.returns-clause-above
returns-clause-above c first a r =
    above_more {a = first} {b = c.own_note.new.judge} {c = c.enter.new.judge} (above_more {a = first} {b = c.terms_of.new.judge} {c = c.own_note.new.judge} (above_more {a = first} {b = c.settle.new.judge} {c = c.terms_of.new.judge} (c.settle.ensures.above first a r) (above_kept c.terms_of.ensures.kept)) (above_kept c.own_note.ensures.kept)) c.enter.ensures.above

pub returns-in_err-terms-clause-above : goal.returns-in_err-terms-clause-above
returns-in_err-terms-clause-above c first a r = above_more {a = first} {b = c.settle.new.judge} {c = c.terms_of.new.judge} (c.settle.ensures.above first a r) (above_kept c.terms_of.ensures.kept)

pub returns-in_err-note-clause-above : goal.returns-in_err-note-clause-above
returns-in_err-note-clause-above c first a r =
    above_more {a = first} {b = c.terms_of.new.judge} {c = c.own_note.new.judge} (above_more {a = first} {b = c.settle.new.judge} {c = c.terms_of.new.judge} (c.settle.ensures.above first a r) (above_kept c.terms_of.ensures.kept)) (above_kept c.own_note.ensures.kept)

pub returns-in_err-enter-clause-above : goal.returns-in_err-enter-clause-above
returns-in_err-enter-clause-above c first a r =
    above_more {a = first} {b = c.own_note.new.judge} {c = c.enter.new.judge} (above_more {a = first} {b = c.terms_of.new.judge} {c = c.own_note.new.judge} (above_more {a = first} {b = c.settle.new.judge} {c = c.terms_of.new.judge} (c.settle.ensures.above first a r) (above_kept c.terms_of.ensures.kept)) (above_kept c.own_note.ensures.kept)) c.enter.ensures.above

pub returns-in_err-put_off-clause-above : goal.returns-in_err-put_off-clause-above
returns-in_err-put_off-clause-above c first a r =
    above_more {a = first} {b = c.own_note.new.judge} {c = c.enter.new.judge} (above_more {a = first} {b = c.terms_of.new.judge} {c = c.own_note.new.judge} (above_more {a = first} {b = c.settle.new.judge} {c = c.terms_of.new.judge} (c.settle.ensures.above first a r) (above_kept c.terms_of.ensures.kept)) (above_kept c.own_note.ensures.kept)) c.enter.ensures.above
