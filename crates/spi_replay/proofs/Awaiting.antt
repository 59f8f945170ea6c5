-- What a wait says of the move that it stands for.
use Rattle.std.proofs.Common.{◌≡◌, ℕ, List, length, Option, Some, None, slice_get, refl, ap, arith}
use Rattle.std.proofs.lemmas.Option.{slice_get_within}
use Rattle.spi_term.specs.Term.{Message, message_size}
use Rattle.spi_term.specs.Spelling.{stopped}
use Rattle.spi_intern.specs.Table.{KeepsAll}
use Rattle.spi_intern.specs.Messages.{message_at}
use Rattle.spi_intern.specs.declared.messages.MsgId.{MsgId}
use Rattle.spi_intern.proofs.Sized.{at_message}
use Rattle.spi_replay.specs.Stepping.{largest}
use Rattle.spi_replay.specs.declared.waits.Wait.{Wait}
use Rattle.spi_replay.specs.Indexed.{out_channel, in_channel}
use Rattle.spi_replay.specs.Waiting.{wait_acts, wait_appends, wait_within, wait_largest}
use Rattle.spi_replay.specs.Moves.{Move, puts, takes, takes_again, bound_in, appended, acts_alone, Numbers, Waits, w_stays, w_puts, w_takes, w_takes_again, w_binds_one, w_binds_two, w_goes_on, w_shows, w_makes, w_forks}

pub waits_kept : {ms ns : List Message} {w : Wait} {v : Move} → KeepsAll ms ns → Waits ms w v → Waits ns w v
waits_kept k w_stays = w_stays
waits_kept k (w_puts {i = i} {j = j} a b) = w_puts (k.at i.place _ a) (k.at j.place _ b)
waits_kept k (w_takes {i = i} a) = w_takes (k.at i.place _ a)
waits_kept k (w_takes_again {i = i} a) = w_takes_again (k.at i.place _ a)
waits_kept k (w_binds_one {i = i} a) = w_binds_one (k.at i.place _ a)
waits_kept k (w_binds_two {i = i} {j = j} a b) = w_binds_two (k.at i.place _ a) (k.at j.place _ b)
waits_kept k w_goes_on = w_goes_on
waits_kept k (w_shows {i = i} a) = w_shows (k.at i.place _ a)
waits_kept k w_makes = w_makes
waits_kept k w_forks = w_forks

-- the number of a channel and the channel, or neither
pub data Channel (ms : List Message) : Option ℕ → Option Message → Type 0 where
  no_channel : Channel ms None None
  a_channel : {c : ℕ} {m : Message} → slice_get ms c ≡ Some m → Channel ms (Some c) (Some m)

unfoldable pub put_of : Move → Option Message
put_of (puts a b) = Some a
put_of v = None

unfoldable pub take_of : Move → Option Message
take_of (takes a i) = Some a
take_of (takes_again a i) = Some a
take_of v = None

size_of : (ms : List Message) (i : MsgId) {m : Message} → Numbers ms i m → message_size (message_at ms i) ≡ message_size m
size_of ms i a = ap message_size (at_message ms i a)

pub record ToldWait (ms : List Message) (w : Wait) (v : Move) : Type 0 where
  pub acts : wait_acts w ≡ acts_alone v
  pub appends : wait_appends w ≡ appended v
  pub within : wait_within (length ms) w
  pub largest : (n : ℕ) → wait_largest ms w ≡ stopped (largest (bound_in n v))
  pub put : Channel ms (out_channel w) (put_of v)
  pub take : Channel ms (in_channel w) (take_of v)

pub waits_tell : {ms : List Message} {w : Wait} {v : Move} → Waits ms w v → ToldWait ms w v
unfolding put_of take_of
waits_tell w_stays = record { acts = refl; appends = refl; within = tt; largest = λ n. refl; put = no_channel; take = no_channel }
waits_tell (w_puts a b) = record { acts = refl; appends = refl; within = tt; largest = λ n. refl; put = a_channel a; take = no_channel }
waits_tell (w_takes a) = record { acts = refl; appends = refl; within = tt; largest = λ n. refl; put = no_channel; take = a_channel a }
waits_tell (w_takes_again a) = record { acts = refl; appends = refl; within = tt; largest = λ n. refl; put = no_channel; take = a_channel a }
waits_tell {ms} (w_binds_one {i = i} {m = m} a) = record { acts = refl; appends = refl; within = slice_get_within ms i.place m a; largest = λ n. omega (arith, size_of ms i a); put = no_channel; take = no_channel }
waits_tell {ms} (w_binds_two {i = i} {j = j} {m = m} {n = n} a b) = record { acts = refl; appends = refl; within = (slice_get_within ms i.place m a, slice_get_within ms j.place n b); largest = λ n. omega (arith, size_of ms i a, size_of ms j b); put = no_channel; take = no_channel }
waits_tell w_goes_on = record { acts = refl; appends = refl; within = tt; largest = λ n. refl; put = no_channel; take = no_channel }
waits_tell {ms} (w_shows {i = i} {m = m} a) = record { acts = refl; appends = refl; within = slice_get_within ms i.place m a; largest = λ n. omega (arith, size_of ms i a); put = no_channel; take = no_channel }
waits_tell w_makes = record { acts = refl; appends = refl; within = tt; largest = λ n. refl; put = no_channel; take = no_channel }
waits_tell w_forks = record { acts = refl; appends = refl; within = tt; largest = λ n. refl; put = no_channel; take = no_channel }
