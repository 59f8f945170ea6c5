-- What acts give.
use Rattle.std.proofs.Common.{◌≡◌, ℕ, List, [], ◌∷◌, map, Option, Some, None, sym, ◌∙◌, subst}
use Rattle.spi_term.specs.Term.{Message, Process}
use Rattle.spi_term.specs.Spelling.{Spelling, spelled}
use Rattle.spi_run.specs.Reduction.{Event, Acts}
use Rattle.spi_run.specs.declared.step.Event as declared
use Rattle.spi_replay.specs.Stepping.{event_in}
use Rattle.spi_replay.specs.declared.names.Link.{Link}
use Rattle.spi_replay.specs.declared.places.Place.{Place}
use Rattle.spi_replay.specs.declared.acting.Taken.{Taken}
use Rattle.spi_replay.specs.Holding.{held_at, place_process}
use Rattle.spi_replay.specs.Standing.{IsPlace, StandsAt}
use Rattle.spi_replay.specs.Indexed.{place_listed}
use Rattle.spi_replay.specs.Pools.{TakenBy}
use Rattle.spi_replay.proofs.Forms.{LeadsByOne}

no_more : {A : Type 0} {x : A} {P : Type 0} → None ≡ Some x → P
no_more e = absurd cc

-- an act that appends nothing
pub taken_alone : (old new : List Message) (ls ls' : List Link) (n : ℕ) (p : Place) (t : Taken) (sp : Spelling) (node : ℕ) (vs bs : List Message) (now : Place) (e : Option declared.Event) (m : ℕ) → t ≡ record { now = now; more = None; event = e; names = m } → StandsAt new ls' sp node vs now → LeadsByOne n (place_process old ls p) (event_in e) m (held_at sp.names vs (spelled sp.names sp.process) node) [] bs → TakenBy old ls new ls' n p t
taken_alone old new ls ls' n p t sp node vs bs now e m is s l = subst (TakenBy old ls new ls' n p) (sym is) (record {
  acts = subst (λ q. Acts n (place_process old ls p) (event_in e) m q []) (sym s.process) l.acts;
  now = s.is;
  more = λ q f. no_more f;
})

-- an act that appends a place
pub taken_both : (old new : List Message) (ls ls' : List Link) (n : ℕ) (p : Place) (t : Taken) (other : Place) (sp : Spelling) (i j : ℕ) (vs bs : List Message) → t.more ≡ Some other → StandsAt new ls' sp i vs t.now → StandsAt new ls' sp j vs other → LeadsByOne n (place_process old ls p) (event_in t.event) t.names (held_at sp.names vs (spelled sp.names sp.process) i) (held_at sp.names vs (spelled sp.names sp.process) j ∷ []) bs → TakenBy old ls new ls' n p t
taken_both old new ls ls' n p t other sp i j vs bs e s r l = record {
  acts = subst (λ o. Acts n (place_process old ls p) (event_in t.event) t.names (place_process new ls' t.now) (map (place_process new ls') (place_listed o))) (sym e) (subst (λ w. Acts n (place_process old ls p) (event_in t.event) t.names (place_process new ls' t.now) (w ∷ [])) (sym r.process) (subst (λ q. Acts n (place_process old ls p) (event_in t.event) t.names q (held_at sp.names vs (spelled sp.names sp.process) j ∷ [])) (sym s.process) l.acts));
  now = s.is;
  more = λ q f. let g : other ≡ q = one (sym e ∙ f) in subst (IsPlace new ls') g r.is;
}
  where
    one : {x y : Place} → Some x ≡ Some y → x ≡ y
    one e = cc

pub leads_event : {n n' : ℕ} {p q : Process} {e e' : Event} {more : List Process} {bs : List Message} → e ≡ e' → LeadsByOne n p (Some e) n' q more bs → LeadsByOne n p (Some e') n' q more bs
leads_event {n} {n'} {p} {q} {e} {e'} {more} {bs} f l = subst (λ x. LeadsByOne n p (Some x) n' q more bs) f l

pub leads_names : {n m m' : ℕ} {p q : Process} {e : Option Event} {more : List Process} {bs : List Message} → m ≡ m' → LeadsByOne n p e m q more bs → LeadsByOne n p e m' q more bs
leads_names {n} {m} {m'} {p} {q} {e} {more} {bs} f l = subst (λ x. LeadsByOne n p e x q more bs) f l
