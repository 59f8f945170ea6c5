-- What `knows` promises.
use Rattle.std.proofs.Common.{◌≡◌, ◌⊎◌, ℕ, ◌<◌, ◌≤◌, List, ◌++◌, Option, refl, sym, ap, ◌∙◌, subst, inl, inr, arith}
use Rattle.std.specs.Io.KnownBytes.{Appends}
use Rattle.spi_scope.specs.StandsFor.{Meant}
use Rattle.spi_term.specs.Term.{Message, name}
use Rattle.spi_run.specs.Reduction.{Event}
use Rattle.spi_run.specs.Knowledge.{Knows}
use Rattle.spi_know.specs.Numbered.{nodes_in}
use Rattle.spi_know.specs.Sent.{names_up, KeysStayUnknown}
use Rattle.spi_know.specs.Cert.{Certifies}
use Rattle.spi_know.specs.declared.cert.CertLine.{CertLine}
use Rattle.spi_replay.specs.Stepping.{Pooled, places_most}
use Rattle.spi_commands.specs.declared.status.Status.{Status}
use Rattle.spi_commands.specs.declared.status.Status.TheVariants.{Yes, No, Refused, ReadFault, WriteFault, NoMemory, Usage}
use Rattle.spi_commands.specs.Spelled.{SpellsFile, SpellsDerivable, SpellsNone}
use Rattle.spi_commands.specs.Beside.{replay_pool}
use Rattle.spi_commands.specs.Replays.{RunsThrough, SpellsUnplayed, IsUnplayed, talks_most}
use Rattle.spi_commands.specs.Certificate.{known_text}
use Rattle.spi_commands.specs.Knowing.{sent_through, IsTooMuchSent, too_much_sent, IsNoName, no_name, RefusesKnows, IsKnowsAsked, SpellsKnown, SpellsUnknown, IsKnown, KnowsTo, SpellsMuchSent, SpellsNameless, MakesKey, IsKnownOn}
use Rattle.spi_commands.proofs.FileFacts.{OneFile, Safe, RefusedNone, holds_after}
use Rattle.spi_commands.proofs.FileParts.{process_over_names, opponent_over_names}
use Rattle.spi_commands.proofs.ScheduleFiles.{last_once, never_unplayed, talks_once, unreplayed}
use Rattle.spi_commands.proofs.ScheduleRuns.{same_handed}

-- ---- one file has one replay

module _ (i : ℕ) (f : Meant) (es fs : List Event) (a : RunsThrough f es) (g : Meant) (b : RunsThrough g fs) (e : f ≡ g) where
  same_talks : b.talks ≡ a.talks
  same_talks = subst (λ (h : Meant). (b : RunsThrough h fs) → b.talks ≡ a.talks) e (λ b. talks_once f fs es b a) b

  same_last : b.last ≡ a.last
  same_last = subst (λ (h : Meant). (b : RunsThrough h fs) → b.last ≡ a.last) e (λ b. last_once f fs es b a) b

  same_sent : sent_through g b ≡ sent_through f a
  same_sent = ap (λ (ms : List Message). names_up g.process.names ++ ms) same_talks ∙ ap (λ (h : Meant). names_up h.process.names ++ a.talks) (sym e)

  knows_too : Knows (sent_through g b) (name i) → Knows (sent_through f a) (name i)
  knows_too k = subst (λ (ms : List Message). Knows ms (name i)) same_sent k

  certifies_too : (lines : List CertLine) → Certifies (sent_through g b) lines (name i) → Certifies (sent_through f a) lines (name i)
  certifies_too lines c = subst (λ (ms : List Message). Certifies ms lines (name i)) same_sent c

module _ (one : OneFile) (i : ℕ) (bytes : List ℕ) where
  known_never : SpellsKnown i bytes → SpellsUnknown i bytes → ⊥
  known_never (f, es, a, asked, k) (g, fs, b, there, un) = un (knows_too i g fs es b f a (one bytes g f there.spells asked.spells) k)

  -- what is asked isn't refused
  abbrev Why : Type 0
  Why = (SpellsNone bytes ⊎ SpellsUnplayed bytes) ⊎ (SpellsMuchSent bytes ⊎ SpellsNameless i bytes)

  asked_never : (f : Meant) (es : List Event) (a : RunsThrough f es) → IsKnowsAsked i bytes f es a → Why → ⊥
  asked_never f es a asked (inl (inl none)) = none f asked.spells
  asked_never f es a asked (inl (inr (g, spells, why))) = never_unplayed f es a (subst (λ (h : Meant). IsUnplayed h) (one bytes g f spells asked.spells) why)
  asked_never f es a asked (inr (inl (g, fs, b, spells, much))) =
      let same : nodes_in b.talks ≡ nodes_in a.talks = ap nodes_in (same_talks i f es fs a g b (one bytes f g asked.spells spells)) in
      let few = asked.few in
      omega (arith, same, few, much)
  asked_never f es a asked (inr (inr (g, fs, b, spells, past))) =
      let same : b.last.configuration.names ≡ a.last.configuration.names = ap (λ (p : Pooled). p.configuration.names) (same_last i f es fs a g b (one bytes f g asked.spells spells)) in
      let used = asked.used in
      omega (arith, same, used, past)

  -- a key that the replay makes isn't known
  key_never : Safe KeysStayUnknown → SpellsDerivable bytes → (f : Meant) (es : List Event) → SpellsFile bytes f → (run : RunsThrough f es) → MakesKey i f run → Knows (sent_through f run) (name i) → ⊥
  key_never keys derivable f es spells run (r, key) knows =
      let (tree, is, stands) = spells in
      let n : ℕ = f.process.names in
      let least : n ≤ n = omega arith in
      let over = process_over_names tree f stands in
      let joins = opponent_over_names tree f run.opponent stands run.beside.0 in
      let same = same_handed (replay_pool places_most f run.opponent, run.last, refl, run.replays) r in
      holds_after KeysStayUnknown one keys bytes derivable f spells run.opponent.process n run.steps es run.last.configuration run.beside.1 least over joins r i key
      (subst (λ (ms : List Message). Knows (names_up n ++ ms) (name i)) (sym same) knows)

  module _ (old new : Option (List ℕ)) where
    refused_is : Why → IsKnownOn i bytes old new Refused
    refused_is why = record {
      yes = (λ e. absurd (cc), λ k. absurd (asked_never k.0 k.1 k.2 k.3 why));
      no = (λ e. absurd (cc), λ k. absurd (asked_never k.0 k.1 k.2 k.3 why));
      refused = (λ e. why, λ r. refl);
      certified = λ e. absurd (cc);
      secret = λ d f es spells run key e. absurd (cc);
    }

    unknown_is : SpellsUnknown i bytes → IsKnownOn i bytes old new No
    unknown_is u = record {
      yes = (λ e. absurd (cc), λ k. absurd (known_never k u));
      no = (λ e. u, λ k. refl);
      refused = (λ e. absurd (cc), λ why. absurd (asked_never u.0 u.1 u.2 u.3 why));
      certified = λ e. absurd (cc);
      secret = λ d f es spells run key e. absurd (cc);
    }

    known_is : Safe KeysStayUnknown → (output : List ℕ) → IsKnown i bytes output → Appends old new output → IsKnownOn i bytes old new Yes
    known_is keys output (f, es, a, lines, asked, k, certifies, text) put = record {
      yes = (λ e. (f, es, a, asked, k), λ k. refl);
      no = (λ e. absurd (cc), λ u. absurd (known_never (f, es, a, asked, k) u));
      refused = (λ e. absurd (cc), λ why. absurd (asked_never f es a asked why));
      certified = λ e g fs spells b.
          let same : g ≡ f = one bytes g f spells asked.spells in (
            lines,
            certifies_too i g fs es b f a same lines certifies,
            subst (λ (o : List ℕ). Appends old new o) (text ∙ ap (λ (h : Meant). known_text h.names i lines) (sym same)) put,
          );
      secret = λ d g fs spells b key e. key_never keys d g fs spells b key (knows_too i g fs es b f a (one bytes g f spells asked.spells) k);
    }

    much_sent : {count number : ℕ} {offset : Option ℕ} {shown : List ℕ} → IsTooMuchSent count number offset shown → talks_most < count
    much_sent (too_much_sent l) = l

    nameless : {names number : ℕ} {offset : Option ℕ} {shown : List ℕ} → IsNoName i names number offset shown → names ≤ i
    nameless (no_name l) = l

    why_refused : RefusedNone → (number : ℕ) (offset : Option ℕ) (shown : List ℕ) → RefusesKnows i bytes number offset shown → Why
    why_refused none_of number offset shown (inl refuses) = inl (unreplayed bytes none_of number offset shown refuses)
    why_refused none_of number offset shown (inr (inl (f, es, a, spells, h))) = inr (inl (f, es, a, spells, much_sent h))
    why_refused none_of number offset shown (inr (inr (f, es, a, spells, few, h))) = inr (inr (f, es, a, spells, nameless h))

    pub knows : RefusedNone → Safe KeysStayUnknown → (output : List ℕ) (status : Status) → KnowsTo i bytes status output → Appends old new output → IsKnownOn i bytes old new status
    knows none_of keys output Yes is put = known_is keys output is put
    knows none_of keys output No (u, text) put = unknown_is u
    knows none_of keys output Refused (r, why, line) put = refused_is (why_refused none_of r.number r.offset r.shown.items why)
    knows none_of keys output ReadFault is put = absurd is
    knows none_of keys output WriteFault is put = absurd is
    knows none_of keys output NoMemory is put = absurd is
    knows none_of keys output Usage is put = absurd is
