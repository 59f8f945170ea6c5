-- What uses do to effects, computed, is what the rows of the table say.
use Rattle.std.proofs.Common.{◌≡◌, refl, sym, ap, ◌∙◌, subst, ℕ, suc, ◌+◌, Bool, true, false, not, ◌&&◌, ◌||◌, true≢false, List, [], ◌∷◌, ◌++◌, length, Option, Some, None, arith}
use Rattle.std.specs.Prelude.{if◌then◌else◌}
use Rattle.std.proofs.lemmas.Bool.{not-true, not_from_false}
use Rattle.spi_term.specs.Term.{name, ends, checks, many, Effect, Process, check}
use Rattle.spi_term.specs.Names.{EffectAvoids}
use Rattle.spi_effect.specs.Effect.{AllMany, Within}
use Rattle.spi_effect.specs.Made.{are_many, minus, greater, mentions, is_within}
use Rattle.spi_effect.proofs.Made.{minus_difference, greater_is, mentions_sound, mentions_complete, or_false, both_false, and_true, both_true, are_many_sound, are_many_complete, is_within_sound, is_within_complete}
use Rattle.spi_effect.proofs.Laws.{sum_append}
use Rattle.spi_rules.specs.Environment.{Env}
use Rattle.spi_rules.specs.Derivations.{RuleUse}
use Rattle.spi_rules.specs.declared.rule.Rule.TheVariants.{ProcIn, ProcRepeat, ProcSplit, ProcSplitUn, ProcMatch, ProcMatchUn, ProcCase, ProcCaseUn, ProcDecrypt, ProcDecryptUn, ProcCheck, ProcCast, ProcCastUn, ProcNew}
use Rattle.spi_message.proofs.Deciding.{nonce_complete}
use Rattle.spi_audit.specs.Fits.{Subject, of_message, of_process, plain, subsumed, Fits, fits_name, fits_unit, fits_unit_un, fits_pair, fits_pair_un, fits_inl, fits_inl_un, fits_inr, fits_inr_un, fits_enc, fits_enc_un, fits_hash, fits_stop, fits_out, fits_in, fits_repeat, fits_split, fits_split_un, fits_match, fits_match_un, fits_case, fits_case_un, fits_decrypt, fits_decrypt_un, fits_check, fits_check_un, fits_begin, fits_end, fits_end_many, fits_cast, fits_cast_un, fits_new, fits_par, fits_sub}
use Rattle.spi_audit.specs.Paying.{GivesEffects, gives_message, gives_stop, gives_out, gives_in, gives_repeat, gives_split, gives_split_un, gives_match, gives_match_un, gives_case, gives_case_un, gives_decrypt, gives_decrypt_un, gives_check, gives_check_un, gives_begin, gives_end, gives_end_many, gives_cast, gives_cast_un, gives_new, gives_par, gives_sub, PaysByUse, pays_message, pays_stop, pays_out, pays_in, pays_repeat, pays_split, pays_split_un, pays_match, pays_match_un, pays_case, pays_case_un, pays_decrypt, pays_decrypt_un, pays_check, pays_check_un, pays_begin, pays_end, pays_end_many, pays_cast, pays_cast_un, pays_new, pays_par, pays_sub}
use Rattle.spi_audit.specs.Audit.{Judged, judged_none, judged_use, AllPay, FirstUnpaid}
use Rattle.spi_audit.specs.Changes.{Change, change_of, check_change, top_effect, below_top, effects_after, pays, run_changes, first_unpaid_change}
use Rattle.spi_audit.specs.Walking.{Trace, trace_none, trace_use}
use Rattle.spi_audit.proofs.Agreeing.{avoids_same}

-- the effects of processes, with an empty one for each message
abbrev pub spread : List Subject → List Effect → List Effect
spread [] st = []
spread (of_message e m t ∷ ss) st = [] ∷ spread ss st
spread (of_process e p ∷ ss) st = top_effect st ∷ spread ss (below_top st)

-- a test decides
pub record Reflects (b : Bool) (P : Type 0) : Type 0 where
  pub to : b ≡ true → P
  pub no : b ≡ false → P → ⊥

always : {P : Type 0} → P → Reflects true P
always p = record { to = λ e. p; no = λ e h. true≢false e }

decided : (b : Bool) {P : Type 0} → (b ≡ true → P) → (P → b ≡ true) → Reflects b P
decided b f g = record { to = f; no = λ e h. true≢false (sym (g h) ∙ e) }

-- the name isn't in an effect
avoided : (k : ℕ) (es : Effect) {P : Type 0} → (EffectAvoids k es → P) → (P → EffectAvoids k es) → Reflects (not (mentions k es)) P
avoided k es f g = decided (not (mentions k es)) (λ e. f (mentions_sound k es (not-true (mentions k es) e))) (λ h. not_from_false (mentions k es) (mentions_complete k es (g h)))

two_avoided : (k l : ℕ) (es : Effect) {P : Type 0} → (EffectAvoids k es → EffectAvoids l es → P) → (P → EffectAvoids k es) → (P → EffectAvoids l es) → Reflects (not (mentions k es || mentions l es)) P
two_avoided k l es f g h =
    decided (not (mentions k es || mentions l es))
    (λ e. let r = or_false (mentions k es) (mentions l es) (not-true (mentions k es || mentions l es) e) in f (mentions_sound k es r.0) (mentions_sound l es r.1))
    (λ p. not_from_false (mentions k es || mentions l es) (both_false (mentions_complete k es (g p)) (mentions_complete l es (h p))))

both_avoided : (k : ℕ) (es fs : Effect) {P : Type 0} → (EffectAvoids k es → EffectAvoids k fs → P) → (P → EffectAvoids k es) → (P → EffectAvoids k fs) → Reflects (not (mentions k es) && not (mentions k fs)) P
both_avoided k es fs f g h =
    decided (not (mentions k es) && not (mentions k fs))
    (λ e. let r = and_true (not (mentions k es)) (not (mentions k fs)) e in f (mentions_sound k es (not-true (mentions k es) r.0)) (mentions_sound k fs (not-true (mentions k fs) r.1)))
    (λ p. both_true (not_from_false (mentions k es) (mentions_complete k es (g p))) (not_from_false (mentions k fs) (mentions_complete k fs (h p))))

served_avoided : (k : ℕ) (es : Effect) {P : Type 0} → (AllMany es → EffectAvoids k es → P) → (P → AllMany es) → (P → EffectAvoids k es) → Reflects (are_many es && not (mentions k es)) P
served_avoided k es f g h =
    decided (are_many es && not (mentions k es))
    (λ e. let r = and_true (are_many es) (not (mentions k es)) e in f (are_many_sound es r.0) (mentions_sound k es (not-true (mentions k es) r.1)))
    (λ p. both_true (are_many_complete es (g p)) (not_from_false (mentions k es) (mentions_complete k es (h p))))

in_paid : {env : Env} {p : Process} {a es : Effect} → PaysByUse (plain ProcIn) (of_process env p) (a ∷ es ∷ []) → EffectAvoids (length env) es
in_paid (pays_in x) = x

repeat_many : {env : Env} {p : Process} {a es : Effect} → PaysByUse (plain ProcRepeat) (of_process env p) (a ∷ es ∷ []) → AllMany es
repeat_many (pays_repeat m x) = m

repeat_paid : {env : Env} {p : Process} {a es : Effect} → PaysByUse (plain ProcRepeat) (of_process env p) (a ∷ es ∷ []) → EffectAvoids (length env) es
repeat_paid (pays_repeat m x) = x

split_paid : {env : Env} {p : Process} {a es : Effect} → PaysByUse (plain ProcSplit) (of_process env p) (a ∷ es ∷ []) → EffectAvoids (length env) es
split_paid (pays_split x y) = x

split_next : {env : Env} {p : Process} {a es : Effect} → PaysByUse (plain ProcSplit) (of_process env p) (a ∷ es ∷ []) → EffectAvoids (suc (length env)) es
split_next (pays_split x y) = y

split_un_paid : {env : Env} {p : Process} {a es : Effect} → PaysByUse (plain ProcSplitUn) (of_process env p) (a ∷ es ∷ []) → EffectAvoids (length env) es
split_un_paid (pays_split_un x y) = x

split_un_next : {env : Env} {p : Process} {a es : Effect} → PaysByUse (plain ProcSplitUn) (of_process env p) (a ∷ es ∷ []) → EffectAvoids (suc (length env)) es
split_un_next (pays_split_un x y) = y

match_paid : {env : Env} {p : Process} {a b es : Effect} → PaysByUse (plain ProcMatch) (of_process env p) (a ∷ b ∷ es ∷ []) → EffectAvoids (length env) es
match_paid (pays_match x) = x

match_un_paid : {env : Env} {p : Process} {a b es : Effect} → PaysByUse (plain ProcMatchUn) (of_process env p) (a ∷ b ∷ es ∷ []) → EffectAvoids (length env) es
match_un_paid (pays_match_un x) = x

case_first : {env : Env} {p : Process} {a es fs : Effect} → PaysByUse (plain ProcCase) (of_process env p) (a ∷ es ∷ fs ∷ []) → EffectAvoids (length env) es
case_first (pays_case x y) = x

case_rest : {env : Env} {p : Process} {a es fs : Effect} → PaysByUse (plain ProcCase) (of_process env p) (a ∷ es ∷ fs ∷ []) → EffectAvoids (length env) fs
case_rest (pays_case x y) = y

case_un_first : {env : Env} {p : Process} {a es fs : Effect} → PaysByUse (plain ProcCaseUn) (of_process env p) (a ∷ es ∷ fs ∷ []) → EffectAvoids (length env) es
case_un_first (pays_case_un x y) = x

case_un_rest : {env : Env} {p : Process} {a es fs : Effect} → PaysByUse (plain ProcCaseUn) (of_process env p) (a ∷ es ∷ fs ∷ []) → EffectAvoids (length env) fs
case_un_rest (pays_case_un x y) = y

decrypt_paid : {env : Env} {p : Process} {a b es : Effect} → PaysByUse (plain ProcDecrypt) (of_process env p) (a ∷ b ∷ es ∷ []) → EffectAvoids (length env) es
decrypt_paid (pays_decrypt x) = x

decrypt_un_paid : {env : Env} {p : Process} {a b es : Effect} → PaysByUse (plain ProcDecryptUn) (of_process env p) (a ∷ b ∷ es ∷ []) → EffectAvoids (length env) es
decrypt_un_paid (pays_decrypt_un x) = x

cast_paid : {env : Env} {p : Process} {a es : Effect} → PaysByUse (plain ProcCast) (of_process env p) (a ∷ es ∷ []) → EffectAvoids (length env) es
cast_paid (pays_cast x) = x

cast_un_paid : {env : Env} {p : Process} {a es : Effect} → PaysByUse (plain ProcCastUn) (of_process env p) (a ∷ es ∷ []) → EffectAvoids (length env) es
cast_un_paid (pays_cast_un x) = x

new_paid : {env : Env} {p : Process} {es : Effect} → PaysByUse (plain ProcNew) (of_process env p) (es ∷ []) → EffectAvoids (length env) (minus es (checks (name (length env)) ∷ []))
new_paid {env = env} {es = es} (pays_new r x) = avoids_same (length env) (record { at = λ c. r.at c ∙ sym ((minus_difference es (checks (name (length env)) ∷ [])).at c) }) x

sub_paid : {env : Env} {p : Process} {es fs : Effect} → PaysByUse (subsumed fs) (of_process env p) (es ∷ []) → Within es fs
sub_paid (pays_sub w) = w

-- a use, and the effects behind it
pub record Stepped (u : RuleUse) (s : Subject) (ps ss : List Subject) (st : List Effect) : Type 0 where
  pub es : List Effect
  pub e : Effect
  pub rest : List Effect
  pub is : spread (ps ++ ss) st ≡ es ++ rest
  pub many : length es ≡ length ps
  pub goes : spread (s ∷ ss) (effects_after (change_of u s) st) ≡ e ∷ rest
  pub gives : GivesEffects u s es e
  pub pays_is : Reflects (pays (change_of u s) st) (PaysByUse u s es)

stepped : {u : RuleUse} {s : Subject} {ps : List Subject} → Fits u s ps → (ss : List Subject) (st : List Effect) → Stepped u s ps ss st
stepped (fits_name a q) ss st = record { es = []; e = []; rest = spread ss st; is = refl; many = refl; goes = refl; gives = gives_message; pays_is = always pays_message }
stepped fits_unit ss st = record { es = []; e = []; rest = spread ss st; is = refl; many = refl; goes = refl; gives = gives_message; pays_is = always pays_message }
stepped fits_unit_un ss st = record { es = []; e = []; rest = spread ss st; is = refl; many = refl; goes = refl; gives = gives_message; pays_is = always pays_message }
stepped fits_pair ss st = record { es = [] ∷ [] ∷ []; e = []; rest = spread ss st; is = refl; many = refl; goes = refl; gives = gives_message; pays_is = always pays_message }
stepped fits_pair_un ss st = record { es = [] ∷ [] ∷ []; e = []; rest = spread ss st; is = refl; many = refl; goes = refl; gives = gives_message; pays_is = always pays_message }
stepped fits_inl ss st = record { es = [] ∷ []; e = []; rest = spread ss st; is = refl; many = refl; goes = refl; gives = gives_message; pays_is = always pays_message }
stepped fits_inl_un ss st = record { es = [] ∷ []; e = []; rest = spread ss st; is = refl; many = refl; goes = refl; gives = gives_message; pays_is = always pays_message }
stepped fits_inr ss st = record { es = [] ∷ []; e = []; rest = spread ss st; is = refl; many = refl; goes = refl; gives = gives_message; pays_is = always pays_message }
stepped fits_inr_un ss st = record { es = [] ∷ []; e = []; rest = spread ss st; is = refl; many = refl; goes = refl; gives = gives_message; pays_is = always pays_message }
stepped (fits_enc a) ss st = record { es = [] ∷ []; e = []; rest = spread ss st; is = refl; many = refl; goes = refl; gives = gives_message; pays_is = always pays_message }
stepped fits_enc_un ss st = record { es = [] ∷ [] ∷ []; e = []; rest = spread ss st; is = refl; many = refl; goes = refl; gives = gives_message; pays_is = always pays_message }
stepped (fits_hash l) ss st = record { es = []; e = []; rest = spread ss st; is = refl; many = refl; goes = refl; gives = gives_message; pays_is = always pays_message }
stepped fits_stop ss st = record { es = []; e = []; rest = spread ss st; is = refl; many = refl; goes = refl; gives = gives_stop; pays_is = always pays_stop }
stepped fits_out ss st = record { es = [] ∷ [] ∷ []; e = []; rest = spread ss st; is = refl; many = refl; goes = refl; gives = gives_out; pays_is = always pays_out }
stepped (fits_in {env = env}) ss st = record { es = [] ∷ top_effect st ∷ []; e = top_effect st; rest = spread ss (below_top st); is = refl; many = refl; goes = refl; gives = gives_in; pays_is = avoided (length env) (top_effect st) pays_in in_paid }
stepped (fits_repeat {env = env}) ss st = record { es = [] ∷ top_effect st ∷ []; e = top_effect st; rest = spread ss (below_top st); is = refl; many = refl; goes = refl; gives = gives_repeat; pays_is = served_avoided (length env) (top_effect st) pays_repeat repeat_many repeat_paid }
stepped (fits_split {env = env} g) ss st = record { es = [] ∷ top_effect st ∷ []; e = top_effect st; rest = spread ss (below_top st); is = refl; many = refl; goes = refl; gives = gives_split; pays_is = two_avoided (length env) (suc (length env)) (top_effect st) pays_split split_paid split_next }
stepped (fits_split_un {env = env}) ss st = record { es = [] ∷ top_effect st ∷ []; e = top_effect st; rest = spread ss (below_top st); is = refl; many = refl; goes = refl; gives = gives_split_un; pays_is = two_avoided (length env) (suc (length env)) (top_effect st) pays_split_un split_un_paid split_un_next }
stepped (fits_match {env = env} g) ss st = record { es = [] ∷ [] ∷ top_effect st ∷ []; e = top_effect st; rest = spread ss (below_top st); is = refl; many = refl; goes = refl; gives = gives_match; pays_is = avoided (length env) (top_effect st) pays_match match_paid }
stepped (fits_match_un {env = env}) ss st = record { es = [] ∷ [] ∷ top_effect st ∷ []; e = top_effect st; rest = spread ss (below_top st); is = refl; many = refl; goes = refl; gives = gives_match_un; pays_is = avoided (length env) (top_effect st) pays_match_un match_un_paid }
stepped (fits_case {env = env} g h) ss st = record { es = [] ∷ top_effect st ∷ top_effect (below_top st) ∷ []; e = greater (top_effect st) (top_effect (below_top st)); rest = spread ss (below_top (below_top st)); is = refl; many = refl; goes = refl; gives = gives_case (greater_is (top_effect st) (top_effect (below_top st))); pays_is = both_avoided (length env) (top_effect st) (top_effect (below_top st)) pays_case case_first case_rest }
stepped (fits_case_un {env = env}) ss st = record { es = [] ∷ top_effect st ∷ top_effect (below_top st) ∷ []; e = greater (top_effect st) (top_effect (below_top st)); rest = spread ss (below_top (below_top st)); is = refl; many = refl; goes = refl; gives = gives_case_un (greater_is (top_effect st) (top_effect (below_top st))); pays_is = both_avoided (length env) (top_effect st) (top_effect (below_top st)) pays_case_un case_un_first case_un_rest }
stepped (fits_decrypt {env = env} g) ss st = record { es = [] ∷ [] ∷ top_effect st ∷ []; e = top_effect st; rest = spread ss (below_top st); is = refl; many = refl; goes = refl; gives = gives_decrypt; pays_is = avoided (length env) (top_effect st) pays_decrypt decrypt_paid }
stepped (fits_decrypt_un {env = env}) ss st = record { es = [] ∷ [] ∷ top_effect st ∷ []; e = top_effect st; rest = spread ss (below_top st); is = refl; many = refl; goes = refl; gives = gives_decrypt_un; pays_is = avoided (length env) (top_effect st) pays_decrypt_un decrypt_un_paid }
stepped (fits_check {env = env} {m = m} {n = n} {p = p} {fs = fs} o) ss st =
    let q = nonce_complete o in
    record {
      es = [] ∷ top_effect st ∷ [];
      e = minus (top_effect st) fs ++ checks m ∷ [];
      rest = spread ss (below_top st);
      is = refl;
      many = refl;
      goes = ap (λ o. spread (of_process env (check m n p) ∷ ss) (effects_after (check_change ProcCheck (length env) m o) st)) q;
      gives = gives_check o (minus_difference (top_effect st) fs) (sum_append (minus (top_effect st) fs) (checks m ∷ []));
      pays_is = subst (λ o. Reflects (pays (check_change ProcCheck (length env) m o) st) (PaysByUse (plain ProcCheck) (of_process env (check m n p)) ([] ∷ top_effect st ∷ []))) (sym q) (always pays_check);
    }
stepped fits_check_un ss st = record { es = [] ∷ [] ∷ top_effect st ∷ []; e = top_effect st; rest = spread ss (below_top st); is = refl; many = refl; goes = refl; gives = gives_check_un; pays_is = always pays_check_un }
stepped (fits_begin {m = m} l) ss st = record { es = top_effect st ∷ []; e = minus (top_effect st) (ends m ∷ (many m ∷ [])); rest = spread ss (below_top st); is = refl; many = refl; goes = refl; gives = gives_begin (minus_difference (top_effect st) (ends m ∷ (many m ∷ []))); pays_is = always pays_begin }
stepped (fits_end {m = m} l) ss st = record { es = top_effect st ∷ []; e = top_effect st ++ ends m ∷ []; rest = spread ss (below_top st); is = refl; many = refl; goes = refl; gives = gives_end (sum_append (top_effect st) (ends m ∷ [])); pays_is = always pays_end }
stepped (fits_end_many {m = m} l) ss st = record { es = top_effect st ∷ []; e = top_effect st ++ many m ∷ []; rest = spread ss (below_top st); is = refl; many = refl; goes = refl; gives = gives_end_many (sum_append (top_effect st) (many m ∷ [])); pays_is = always pays_end_many }
stepped (fits_cast {env = env} {fs = fs} g) ss st = record { es = [] ∷ top_effect st ∷ []; e = top_effect st ++ fs; rest = spread ss (below_top st); is = refl; many = refl; goes = refl; gives = gives_cast (sum_append (top_effect st) fs); pays_is = avoided (length env) (top_effect st) pays_cast cast_paid }
stepped (fits_cast_un {env = env}) ss st = record { es = [] ∷ top_effect st ∷ []; e = top_effect st; rest = spread ss (below_top st); is = refl; many = refl; goes = refl; gives = gives_cast_un; pays_is = avoided (length env) (top_effect st) pays_cast_un cast_un_paid }
stepped (fits_new {env = env} i g) ss st = record { es = top_effect st ∷ []; e = minus (top_effect st) (checks (name (length env)) ∷ []); rest = spread ss (below_top st); is = refl; many = refl; goes = refl; gives = gives_new (minus_difference (top_effect st) (checks (name (length env)) ∷ [])); pays_is = avoided (length env) (minus (top_effect st) (checks (name (length env)) ∷ [])) (λ x. pays_new (minus_difference (top_effect st) (checks (name (length env)) ∷ [])) x) new_paid }
stepped fits_par ss st = record { es = top_effect st ∷ top_effect (below_top st) ∷ []; e = top_effect st ++ top_effect (below_top st); rest = spread ss (below_top (below_top st)); is = refl; many = refl; goes = refl; gives = gives_par (sum_append (top_effect st) (top_effect (below_top st))); pays_is = always pays_par }
stepped (fits_sub {fs = fs} g) ss st = record { es = top_effect st ∷ []; e = fs; rest = spread ss (below_top st); is = refl; many = refl; goes = refl; gives = gives_sub; pays_is = decided (is_within (top_effect st) fs) (λ e. pays_sub (record { at = is_within_sound (top_effect st) fs e })) (λ h. is_within_complete (top_effect st) fs (sub_paid h).at) }

-- what is told of a judgement: where no use is the first that doesn't pay, all pay
abbrev pub Verdict : ℕ → Option ℕ → {ss : List Subject} {us : List RuleUse} {es : List Effect} → Judged ss us es → Type 0
Verdict i None j = AllPay j
Verdict i (Some n) j = (d : ℕ) × (n ≡ i + d) × FirstUnpaid j d

abbrev pub ToldChanges : List Subject → List RuleUse → List Effect → List Change → Type 0
ToldChanges ss us es cs = (j : Judged ss us es) × ((i : ℕ) → Verdict i (first_unpaid_change i cs) j)

module _ {u : RuleUse} {s : Subject} {ps : List Subject} {us : List RuleUse} {es : List Effect} {e : Effect} (ss : List Subject) (rest : List Effect) (f : Fits u s ps) (j : Judged (ps ++ ss) us (es ++ rest)) (l : length es ≡ length ps) (g : GivesEffects u s es e) where
  verdict_later : (i : ℕ) (o : Option ℕ) → PaysByUse u s es → Verdict (suc i) o j → Verdict i o (judged_use f j l g)
  verdict_later i None p v = (p, v)
  verdict_later i (Some n) p v = let q : n ≡ i + suc v.0 = omega (arith, v.1) in (suc v.0, q, (p, v.2))

  verdict_next : (i : ℕ) (b : Bool) (o : Option ℕ) → Reflects b (PaysByUse u s es) → Verdict (suc i) o j → Verdict i (if b then o else Some i) (judged_use f j l g)
  verdict_next i true o d v = verdict_later i o (d.to refl) v
  verdict_next i false o d v = let q : i ≡ i + 0 = omega arith in (0, q, d.no refl)

pub trace_judged : {ss : List Subject} {us : List RuleUse} {cs : List Change} → Trace ss us cs → ToldChanges ss us (spread ss (run_changes cs)) cs
trace_judged trace_none = (judged_none, λ i. tt)
trace_judged (trace_use {u} {s} {ps} {ss} {us} {cs} f t) =
    let w = stepped f ss (run_changes cs) in
    let r = subst (λ l. ToldChanges (ps ++ ss) us l cs) w.is (trace_judged t) in
    subst (λ l. ToldChanges (s ∷ ss) (u ∷ us) l (change_of u s ∷ cs)) (sym w.goes) (judged_use f r.0 w.many w.gives, λ i. verdict_next ss w.rest f r.0 w.many w.gives i (pays (change_of u s) (run_changes cs)) (first_unpaid_change (suc i) cs) w.pays_is (r.1 (suc i)))
