-- Names that are bound to messages when a node is entered.
use Rattle.std.proofs.Common.{◌≡◌, ℕ, List, [], ◌∷◌, ◌++◌, length, slice_get, refl, sym, ap, ◌∙◌, subst, Result, IfOk}
use Rattle.std.proofs.lemmas.Result.{IfOk-weaker}
use Rattle.spi_term.specs.Term.{Message}
use Rattle.spi_term.specs.Spelling.{Spelling}
use Rattle.spi_term.proofs.Lists.{get_last}
use Rattle.spi_intern.specs.Table.{KeepsAll}
use Rattle.spi_intern.specs.declared.messages.MsgId.{MsgId}
use Rattle.spi_intern.proofs.Tables.{keeps_append, keeps_same}
use Rattle.spi_replay.specs.declared.names.Link.{Link}
use Rattle.spi_replay.specs.declared.places.Place.{Place}
use Rattle.spi_replay.specs.Holding.{Chain, a_link}
use Rattle.spi_replay.specs.Moves.{Numbers}
use Rattle.spi_replay.specs.Standing.{Enters, CanEnter, StandsAt, HasEntered, Binds, CanBind, HasBound, CanBindTwo, HasBoundTwo}
use Rattle.spi_replay.proofs.Chains.{chain_kept}

pub keeps_as : {A : Type 0} {xs ys zs : List A} → ys ≡ zs → KeepsAll xs ys → KeepsAll xs zs
keeps_as {xs = xs} e k = subst (KeepsAll xs) e k

-- the link of a name that is bound to a message
abbrev pub a_name : MsgId → ℕ → Link
a_name id last = record { value = id; before = last }

chain_pushed : {ms : List Message} {ls ls' : List Link} {last n : ℕ} (id : MsgId) {m : Message} {vs : List Message} → ls' ≡ ls ++ a_name id last ∷ [] → n ≡ length ls → Numbers ms id m → Chain ms ls last vs → Chain ms ls' n (m ∷ vs)
chain_pushed {ms} {ls} {ls'} {last} {n} id {m} {vs} e f a c =
    let l : Link = a_name id last in
    subst (λ (q : List Link). Chain ms q n (m ∷ vs)) (sym e) (a_link (ap (slice_get (ls ++ l ∷ [])) f ∙ get_last ls l) a (chain_kept (keeps_same refl) (keeps_append ls (l ∷ [])) c))

pub binds_enter : {ms : List Message} {ls ls' : List Link} {sp : Spelling} {node last n : ℕ} (id : MsgId) {m : Message} {vs : List Message} → ls' ≡ ls ++ a_name id last ∷ [] → n ≡ length ls → Numbers ms id m → Binds ms ls sp node last vs (m ∷ []) → Enters ms ls' sp node n (m ∷ vs)
binds_enter id e f a b = record { over = b.over; linked = chain_pushed id e f a b.linked; closed = b.closed; shape = b.shape; there = b.there; scope = b.scope }

pub binds_bind : {ms : List Message} {ls ls' : List Link} {sp : Spelling} {node last n : ℕ} (id : MsgId) {m d : Message} {vs : List Message} → ls' ≡ ls ++ a_name id last ∷ [] → n ≡ length ls → Numbers ms id m → Binds ms ls sp node last vs (d ∷ (m ∷ [])) → Binds ms ls' sp node n (m ∷ vs) (d ∷ [])
binds_bind id e f a b = record { over = b.over; linked = chain_pushed id e f a b.linked; closed = b.closed; shape = b.shape; there = b.there; scope = b.scope }

pub can_enter : {ms : List Message} {ls ls' : List Link} {sp : Spelling} {node last n : ℕ} {id : MsgId} → ls' ≡ ls ++ a_name id last ∷ [] → n ≡ length ls → CanBind ms ls sp node last id → CanEnter ms ls' sp node n
can_enter {id = id} e f c = record { values = c.message ∷ c.values; enters = binds_enter id e f c.number c.binds }

pub can_bind : {ms : List Message} {ls ls' : List Link} {sp : Spelling} {node last n : ℕ} {id j : MsgId} → ls' ≡ ls ++ a_name id last ∷ [] → n ≡ length ls → CanBindTwo ms ls sp node last id j → CanBind ms ls' sp node n j
can_bind {id = id} e f c = record { values = c.message ∷ c.values; message = c.other; number = c.other_number; binds = binds_bind id e f c.number c.binds }

-- ks is ls' as a slice of it
module _ (old new : List Message) (ls ls' ks : List Link) (sp : Spelling) (node last n : ℕ) (id : MsgId) (e : ls' ≡ ls ++ a_name id last ∷ []) (f : n ≡ length ls) (g : ks ≡ ls') where
  pub has_bound : {E : Type 0} (r : Result Place E) → IfOk r (HasEntered old new ks sp node n) → IfOk r (HasBound old new ls ls' sp node last id)
  has_bound r o =
      IfOk-weaker r (HasEntered old new ks sp node n) (HasBound old new ls ls' sp node last id) (λ p h. record { at = λ vs m a b. subst (λ (q : List Link). StandsAt new q sp node (m ∷ vs) p) g (h.at (m ∷ vs) (subst (λ (q : List Link). Enters old q sp node n (m ∷ vs)) (sym g) (binds_enter id e f a b))) }) o

module _ (old new : List Message) (ls ls' ks : List Link) (sp : Spelling) (node last n : ℕ) (id j : MsgId) (e : ls' ≡ ls ++ a_name id last ∷ []) (f : n ≡ length ls) where
  pub has_bound_two : {E : Type 0} (r : Result Place E) → IfOk r (HasBound old new ls' ks sp node n j) → IfOk r (HasBoundTwo old new ls ks sp node last id j)
  has_bound_two r o =
      IfOk-weaker r (HasBound old new ls' ks sp node n j) (HasBoundTwo old new ls ks sp node last id j) (λ p h. record { at = λ vs m d a b q. h.at (m ∷ vs) d b (binds_bind id e f a q) }) o
