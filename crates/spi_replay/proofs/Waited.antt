-- What forms wait for by numbers is what they wait for by messages.
use Rattle.std.proofs.Common.{◌≡◌, ℕ, ◌+◌, ◌-◌, ◌<◌, ◌≤◌, Bool, true, false, List, length, Some, slice_get, refl, sym, ap, ◌∙◌, subst, arith, true≢false, ⊎_elim, eq-eqb}
use Rattle.std.specs.Prelude.{if◌then◌else◌, ◌==◌}
use Rattle.std.proofs.lemmas.Bool.{cases_eq, ne_eqb}
use Rattle.std.proofs.lemmas.Option.{slice_get_within}
use Rattle.spi_term.specs.Term.{Message, same_message, process_size, stop}
use Rattle.spi_term.specs.Spelling.{Shape, Spelling, spelled}
use Rattle.spi_term.specs.Arena.{scope_of}
use Rattle.spi_term.proofs.Numbers.{length_spelled}
use Rattle.spi_term.proofs.Lists.{some_is}
use Rattle.spi_intern.specs.Table.{KeepsAll, AllDiffer}
use Rattle.spi_intern.specs.Messages.{Says, says_bound, says_name, says_unit, says_pair, says_left, says_right, says_enc, says_hash}
use Rattle.spi_intern.specs.declared.messages.MsgId.{MsgId}
use Rattle.spi_intern.specs.declared.messages.MsgPart.{MsgPart}
use Rattle.spi_intern.proofs.MessageLaws.{same_true, same_self}
use Rattle.spi_intern.proofs.Tables.{keeps_same}
use Rattle.spi_replay.specs.declared.names.Link.{Link}
use Rattle.spi_replay.specs.declared.names.Scope.{Scope}
use Rattle.spi_replay.specs.declared.places.Place.{Place}
use Rattle.spi_replay.specs.declared.waits.Wait.{Wait}
use Rattle.spi_replay.specs.declared.waits.Wait.TheVariants as W
use Rattle.spi_replay.specs.Holding.{value, chain, held_at}
use Rattle.spi_replay.specs.Waiting.{split_wait, select_wait, decrypt_wait, branch_wait, check_wait}
use Rattle.spi_replay.specs.Moves.{Move, stays, split_move, select_move, decrypt_move, branch_move, check_move, move_of, Numbers, Waits, w_stays, w_binds_one, w_binds_two, w_goes_on}
use Rattle.spi_replay.specs.Standing.{HasNames, IsInstance, WaitsFor, AreBelow, Enters, CanEnter, StandsAt, HasEntered}
use Rattle.spi_replay.proofs.Subtrees.{IsNode, node_leaf, node_prefix, node_fork, node_at}
use Rattle.spi_replay.proofs.Chains.{chain_is, chain_kept, enters_kept, stand_kept}

-- equal numbers are those of equal messages
pub same_by : {ms : List Message} (i j : MsgId) {m n : Message} → AllDiffer ms → Numbers ms i m → Numbers ms j n → (i.place == j.place) ≡ same_message m n
same_by {ms} i j {m} {n} d a b = ⊎_elim same other (cases_eq i.place j.place)
  where
    same : i.place ≡ j.place → (i.place == j.place) ≡ same_message m n
    same e =
        let f : m ≡ n = some_is (sym a ∙ ap (slice_get ms) e ∙ b) in
        eq-eqb i.place j.place e ∙ sym (ap (same_message m) (sym f) ∙ same_self m)

    by : (z : Bool) → same_message m n ≡ z → (i.place ≡ j.place → ⊥) → (i.place == j.place) ≡ z
    by true e h = absurd (h (d.one i.place j.place n (a ∙ ap Some (same_true m n e)) b))
    by false e h = ne_eqb i.place j.place h

    other : (i.place ≡ j.place → ⊥) → (i.place == j.place) ≡ same_message m n
    other h = by (same_message m n) refl h

if_waits : {ms : List Message} {w : Wait} {v : Move} (x y : Bool) → x ≡ y → Waits ms w v → Waits ms (if x then w else W.Stays) (if y then v else stays)
if_waits true true e h = h
if_waits false false e h = w_stays
if_waits true false e h = absurd (true≢false e)
if_waits false true e h = absurd (true≢false (sym e))

pub split_waits : {ms : List Message} {p : MsgPart} {m : Message} (i : ℕ) → Says ms p m → Waits ms (split_wait p i) (split_move m i)
split_waits i says_bound = w_stays
split_waits i says_name = w_stays
split_waits i says_unit = w_stays
split_waits i (says_pair a b) = w_binds_two a b
split_waits i (says_left a) = w_stays
split_waits i (says_right a) = w_stays
split_waits i (says_enc a b) = w_stays
split_waits i (says_hash a) = w_stays

pub select_waits : {ms : List Message} {p : MsgPart} {m : Message} (j : MsgId) {n : Message} (i : ℕ) → AllDiffer ms → Numbers ms j n → Says ms p m → Waits ms (select_wait p j i) (select_move m n i)
select_waits j i d h says_bound = w_stays
select_waits j i d h says_name = w_stays
select_waits j i d h says_unit = w_stays
select_waits j {n} i d h (says_pair {a = x} {m = m} a b) = if_waits (x.place == j.place) (same_message m n) (same_by x j d a h) (w_binds_one b)
select_waits j i d h (says_left a) = w_stays
select_waits j i d h (says_right a) = w_stays
select_waits j i d h (says_enc a b) = w_stays
select_waits j i d h (says_hash a) = w_stays

pub decrypt_waits : {ms : List Message} {p : MsgPart} {m : Message} (j : MsgId) {n : Message} (i : ℕ) → AllDiffer ms → Numbers ms j n → Says ms p m → Waits ms (decrypt_wait p j i) (decrypt_move m n i)
decrypt_waits j i d h says_bound = w_stays
decrypt_waits j i d h says_name = w_stays
decrypt_waits j i d h says_unit = w_stays
decrypt_waits j i d h (says_pair a b) = w_stays
decrypt_waits j i d h (says_left a) = w_stays
decrypt_waits j i d h (says_right a) = w_stays
decrypt_waits j {n} i d h (says_enc {b = y} {n = k} a b) = if_waits (y.place == j.place) (same_message k n) (same_by y j d b h) (w_binds_one a)
decrypt_waits j i d h (says_hash a) = w_stays

pub branch_waits : {ms : List Message} {p : MsgPart} {m : Message} (i j : ℕ) → Says ms p m → Waits ms (branch_wait p i j) (branch_move m i j)
branch_waits i j says_bound = w_stays
branch_waits i j says_name = w_stays
branch_waits i j says_unit = w_stays
branch_waits i j (says_pair a b) = w_stays
branch_waits i j (says_left a) = w_binds_one a
branch_waits i j (says_right a) = w_binds_one a
branch_waits i j (says_enc a b) = w_stays
branch_waits i j (says_hash a) = w_stays

pub check_waits : {ms : List Message} (j k : MsgId) {m n : Message} (i : ℕ) → AllDiffer ms → Numbers ms j m → Numbers ms k n → Waits ms (check_wait j k i) (check_move m n i)
check_waits j k {m} {n} i d a b = if_waits (j.place == k.place) (same_message m n) (same_by j k d a b) w_goes_on

-- a number that a call gave
pub given_below : {old new : List Message} {ls : List Link} {sc : Scope} {m : Message} {id : MsgId} → HasNames old ls sc → IsInstance old new ls sc m id → id.place < length new
given_below {new = new} {id = id} h x = slice_get_within new id.place _ (x.at h.values h.stand)

pub instance_later : {old mid new : List Message} {ls : List Link} {sc : Scope} {m : Message} {id : MsgId} → KeepsAll mid new → IsInstance old mid ls sc m id → IsInstance old new ls sc m id
instance_later {id = id} k x = record { at = λ vs h. k.at id.place _ (x.at vs h) }

pub instance_before : {old mid new : List Message} {ls : List Link} {sc : Scope} {m : Message} {id : MsgId} → KeepsAll old mid → IsInstance mid new ls sc m id → IsInstance old new ls sc m id
instance_before k x = record { at = λ vs h. x.at vs (stand_kept k h) }

-- entering a node
below_of : {ss : List Shape} {i : ℕ} {x : Shape} → IsNode ss i x → AreBelow (scope_of x) x
below_of (node_leaf h e) = h
below_of (node_prefix h e f) = h
below_of (node_fork h e f g) = h

pub enter_node : {ms : List Message} {ls : List Link} {sp : Spelling} {node last : ℕ} → CanEnter ms ls sp node last → node < process_size sp.process
enter_node {sp = sp} {node = node} h =
    let e = h.enters in
    let b : node < length (spelled sp.names sp.process) = slice_get_within (spelled sp.names sp.process) node e.shape e.there in
    omega (arith, b, length_spelled sp.names sp.process)

-- what a node that is read says
pub record ReadShape (ms : List Message) (ls : List Link) (sp : Spelling) (node last : ℕ) (x : Shape) (s : ℕ) : Type 0 where
  pub can : CanEnter ms ls sp node last
  pub there : slice_get (spelled sp.names sp.process) node ≡ Some x
  pub scope : scope_of x ≡ s

shape_is : {ms : List Message} {ls : List Link} {sp : Spelling} {node last s : ℕ} {x : Shape} {vs : List Message} → ReadShape ms ls sp node last x s → (e : Enters ms ls sp node last vs) → x ≡ e.shape
shape_is r e = some_is (sym r.there ∙ e.there)

scope_is : {ms : List Message} {ls : List Link} {sp : Spelling} {node last s : ℕ} {x : Shape} {vs : List Message} → ReadShape ms ls sp node last x s → Enters ms ls sp node last vs → s ≡ sp.names + length vs
scope_is r e = sym r.scope ∙ ap scope_of (shape_is r e) ∙ e.scope

pub read_free : {ms : List Message} {ls : List Link} {sp : Spelling} {node last s : ℕ} {x : Shape} → ReadShape ms ls sp node last x s → sp.names ≤ s
read_free r = omega (arith, scope_is r r.can.enters)

pub read_names : {ms : List Message} {ls : List Link} {sp : Spelling} {node last s : ℕ} {x : Shape} → (free : ℕ) → free ≡ sp.names → ReadShape ms ls sp node last x s → HasNames ms ls (record { free = free; bound = s - free; last = last })
read_names free f r = record { values = r.can.values; stand = record { linked = r.can.enters.linked; bound = omega (arith, scope_is r r.can.enters) } }

pub read_below : {ms : List Message} {ls : List Link} {sp : Spelling} {node last s : ℕ} {x : Shape} (free : ℕ) → free ≡ sp.names → ReadShape ms ls sp node last x s → AreBelow (free + (s - free)) x
read_below {sp = sp} {node = node} {s = s} {x = x} free f r =
    let e : scope_of x ≡ free + (s - free) = omega (arith, r.scope, read_free r) in
    subst (λ n. AreBelow n x) e (below_of (node_at sp.names sp.process r.can.enters.over node x r.there))

pub has_entered : {old new : List Message} {ls : List Link} {s : ℕ} {x : Shape} (p : Place) (free : ℕ) → free ≡ p.source.now.names → ReadShape old ls p.source.now p.node p.last x s → KeepsAll old new → p.bound ≡ s - free → p.done ≡ false → WaitsFor old new ls (record { free = free; bound = s - free; last = p.last }) (λ g. move_of g x) p.wait → HasEntered old new ls p.source.now p.node p.last p
has_entered {old} {new} {ls} {s} {x} p free f r k b d w = record { at = at }
  where
    at : (vs : List Message) → Enters old ls p.source.now p.node p.last vs → StandsAt new ls p.source.now p.node vs p
    at vs e =
        let n = p.source.now.names in
        let c = chain_kept k (keeps_same refl) e.linked in
        let many : length vs ≡ p.bound = omega (arith, b, scope_is r e) in
        let m : move_of (value n vs) x ≡ (if p.done then stays else move_of (value n vs) e.shape) = ap (move_of (value n vs)) (shape_is r e) ∙ ap (λ z. if z then stays else move_of (value n vs) e.shape) (sym d) in
        record {
          is = record {
            values = vs;
            enters = enters_kept k (keeps_same refl) e;
            bound = many;
            waits = subst (Waits new p.wait) (ap (λ q. move_of (value q vs) x) f ∙ m) (w.at vs (record { linked = e.linked; bound = omega (arith, scope_is r e) }));
          };
          process = ap (λ z. if z then stop else held_at n (chain new ls p.bound p.last) (spelled n p.source.now.process) p.node) d ∙ ap (λ ws. held_at n ws (spelled n p.source.now.process) p.node) (ap (λ q. chain new ls q p.last) (sym many) ∙ chain_is c);
        }
