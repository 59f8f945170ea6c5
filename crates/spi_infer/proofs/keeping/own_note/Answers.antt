use Rattle.spi_message.proofs.Tested.{env_kept, stands_kept}
use Rattle.spi_count.proofs.Kept.{kept_as, grows_store, grows_more}
use Rattle.spi_infer.proofs.Numbers.{numbers_keep}
use Rattle.spi_infer.proofs.keeping.own_note.Goals as goal

pub own_of-requires-clause-keys : goal.own_of-requires-clause-keys
own_of-requires-clause-keys c = kept_as c.args.keys.now c.in_ok-fine.ensures.kept.store c.requires.keys

pub own_of-requires-clause-names : goal.own_of-requires-clause-names
own_of-requires-clause-names c = env_kept {j = c.args.judge.now} {k = c.is_form_ok.new.judge} c.in_ok-fine.ensures.kept c.requires.names

pub returns-clause-note : goal.returns-clause-note
returns-clause-note c = record {
  at = λ e s. (c.in_ok-fine.ensures.answer.at e s, (λ f. c.in_ok-own.ensures.fits.at e (stands_kept {j = c.args.judge.now} {k = c.is_form_ok.new.judge} c.in_ok-fine.ensures.kept s)));
}

pub returns-clause-grows : goal.returns-clause-grows
returns-clause-grows c = grows_more (grows_store c.in_ok-fine.ensures.kept.store c.requires.keys) c.in_ok-own.ensures.grows

pub own_of-requires-clause-terms : goal.own_of-requires-clause-terms
own_of-requires-clause-terms c = numbers_keep {j = c.args.judge.now} {k = c.is_form_ok.new.judge} _ c.args.terms c.in_ok-fine.ensures.kept.store c.requires.terms
