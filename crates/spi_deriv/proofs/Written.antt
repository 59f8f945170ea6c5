-- The rule uses of each typing of a message, and what the head of a type tells of a message that has it.
use Rattle.std.proofs.Common.{◌≡◌, ℕ, true, false, List, [], ◌++◌, Some, None, refl, sym, ap, ◌∙◌}
use Rattle.std.specs.Prelude.{slice_get}
use Rattle.spi_term.specs.Lists.{At}
use Rattle.spi_term.proofs.Lists.{at_get, at_unique}
use Rattle.spi_term.specs.SameTy.{same_un, same_pair, same_sum, same_key}
use Rattle.spi_term.specs.Term.{Message, name, enc, Effect, Ty, un, pair_ty, sum_ty, key, nonce}
use Rattle.spi_term.specs.Substitution.{put, ty_put}
use Rattle.spi_rules.specs.Environment.{Env}
use Rattle.spi_rules.specs.Messages.{HasType, msg_name, msg_unit, msg_unit_un, msg_pair, msg_pair_un, msg_inl, msg_inl_un, msg_inr, msg_inr_un, msg_enc, msg_enc_un, msg_hash, msg_cast}
use Rattle.spi_rules.specs.Processes.{IsNonce, nonce_name, nonce_cast}
use Rattle.spi_rules.specs.Derivations.{uses, type_uses}
use Rattle.spi_rules.specs.declared.rule.Rule.TheVariants.{MsgName, MsgPair, MsgPairUn, MsgInl, MsgInlUn, MsgInr, MsgInrUn, MsgEnc, MsgEncUn}
use Rattle.spi_rules.proofs.Least.{nonce_no_un}
use Rattle.spi_message.specs.Tests.{key_in, type_of_key, nonce_in, nonce_of}
use Rattle.spi_deriv.specs.Canonical.{IsTypedMessage, IsCanonicalMessage}
use Rattle.spi_deriv.specs.Uses.{enc_uses, message_uses, is_pair_ty, is_pair, is_sum_ty, is_sum}
use Rattle.spi_deriv.proofs.Heads.{bare_type, bare_map, bare_un, bare_pair, bare_sum, bare_key, bare_nonce, Alike, seen, same_uses}

-- a name of type Un is of no Key and of no Nonce type
no_un_key : {e : Env} {x : ℕ} {t : Ty} → At e x (key t) → HasType [] e (name x) un → ⊥
no_un_key a (msg_name b same_un) = let h = at_unique a b in cc
no_un_key a (msg_cast i s) = elim i [ ]

pub key_or_un : {e : Env} {n : Message} {t : Ty} → HasType [] e n (key t) → HasType [] e n un → ⊥
key_or_un (msg_name a (same_key s)) h = no_un_key a h
key_or_un (msg_cast i s) h = elim i [ ]

pub nonce_or_un : {e : Env} {n : Message} {es : Effect} → IsNonce [] e n es → HasType [] e n un → ⊥
nonce_or_un (nonce_name a) h = nonce_no_un a h
nonce_or_un (nonce_cast i) h = elim i [ ]

-- each typing without casts is canonical: a key is a name of a Key type, or it has type Un, and never both
enc_typed : {e : Env} {m n : Message} {t : Ty} (h : HasType [] e (enc m n) t) → IsTypedMessage h → HasType [] e n un → ⊥
enc_typed (msg_enc h a) i k = no_un_key a k
enc_typed (msg_enc_un h j) i k = absurd i
enc_typed (msg_cast j s) i k = absurd i

pub every : {e : Env} {m : Message} {t : Ty} (h : HasType [] e m t) → IsCanonicalMessage h
every (msg_name a s) = tt
every msg_unit = tt
every msg_unit_un = tt
every (msg_pair h k) = (every h, every k)
every (msg_pair_un h k) = (every h, every k)
every (msg_inl h) = every h
every (msg_inl_un h) = every h
every (msg_inr h) = every h
every (msg_inr_un h) = every h
every (msg_enc h a) = every h
every (msg_enc_un h k) = (λ d i. enc_typed d i k, every h, every k)
every (msg_hash l) = tt
every (msg_cast i s) = elim i [ ]

module _ {e : Env} (f : List Ty) (a : Alike f e) where
  -- what is seen of a name
  un_seen : {x : ℕ} → At e x un → slice_get f x ≡ Some un
  un_seen {x} h = let w = seen f e x un a (at_get h) in w.1 ∙ ap Some (bare_un w.0 w.2)

  key_seen : {x : ℕ} {t : Ty} → At e x (key t) → (u : Ty) × (slice_get f x ≡ Some (key u)) × (bare_type u ≡ bare_type t)
  key_seen {x} {t} h =
      let w = seen f e x (key t) a (at_get h) in
      let k = bare_key w.0 (bare_type t) w.2 in
      (k.0, w.1 ∙ ap Some k.1, k.2)

  nonce_seen : {x : ℕ} {es : Effect} → At e x (nonce es) → (fs : Effect) × (slice_get f x ≡ Some (nonce fs))
  nonce_seen {x} {es} h =
      let w = seen f e x (nonce es) a (at_get h) in
      let k = bare_nonce w.0 [] w.2 in
      (k.0, w.1 ∙ ap Some k.1)

  -- a message of type Un
  pub un_no_key : {n : Message} → HasType [] e n un → type_of_key f n ≡ None
  un_no_key (msg_name h same_un) = ap key_in (un_seen h)
  un_no_key (msg_cast i s) = elim i [ ]
  un_no_key _ = refl

  pub un_no_nonce : {n : Message} → HasType [] e n un → nonce_of f n ≡ None
  un_no_nonce (msg_name h same_un) = ap nonce_in (un_seen h)
  un_no_nonce (msg_cast i s) = elim i [ ]
  un_no_nonce _ = refl

  pub un_no_pair : {m : Message} → HasType [] e m un → (HasType [] e m (pair_ty un un) → ⊥) → is_pair f m ≡ false
  un_no_pair (msg_name h same_un) n = ap is_pair_ty (un_seen h)
  un_no_pair (msg_pair_un h k) n = absurd (n (msg_pair h k))
  un_no_pair (msg_cast i s) n = elim i [ ]
  un_no_pair _ n = refl

  pub un_no_sum : {m : Message} → HasType [] e m un → (HasType [] e m (sum_ty un un) → ⊥) → is_sum f m ≡ false
  un_no_sum (msg_name h same_un) n = ap is_sum_ty (un_seen h)
  un_no_sum (msg_inl_un h) n = absurd (n (msg_inl h))
  un_no_sum (msg_inr_un h) n = absurd (n (msg_inr h))
  un_no_sum (msg_cast i s) n = elim i [ ]
  un_no_sum _ n = refl

  -- a message of another type
  pub pair_is_pair : {m : Message} {t u : Ty} → HasType [] e m (pair_ty t u) → is_pair f m ≡ true
  pair_is_pair (msg_name {x} h (same_pair {t} {u = u} p q)) =
      let w = seen f e x (pair_ty t u) a (at_get h) in
      let k = bare_pair w.0 (bare_type t) (bare_type u) w.2 in
      ap is_pair_ty (w.1 ∙ ap Some k.2)
  pair_is_pair (msg_pair h k) = refl
  pair_is_pair (msg_cast i s) = elim i [ ]

  pub sum_is_sum : {m : Message} {t u : Ty} → HasType [] e m (sum_ty t u) → is_sum f m ≡ true
  sum_is_sum (msg_name {x} h (same_sum {t} {u = u} p q)) =
      let w = seen f e x (sum_ty t u) a (at_get h) in
      let k = bare_sum w.0 (bare_type t) (bare_type u) w.2 in
      ap is_sum_ty (w.1 ∙ ap Some k.2)
  sum_is_sum (msg_inl h) = refl
  sum_is_sum (msg_inr h) = refl
  sum_is_sum (msg_cast i s) = elim i [ ]

  pub key_is_key : {n : Message} {t : Ty} (h : HasType [] e n (key t)) → ((u : Ty) × (type_of_key f n ≡ Some u)) × (type_uses h ≡ uses MsgName [])
  key_is_key (msg_name h (same_key s)) = let w = key_seen h in ((w.0, ap key_in w.1), refl)
  key_is_key (msg_cast i s) = elim i [ ]

  pub nonce_is_nonce : {n : Message} {es : Effect} → IsNonce [] e n es → (fs : Effect) × (nonce_of f n ≡ Some fs)
  nonce_is_nonce (nonce_name h) = let w = nonce_seen h in (w.0, ap nonce_in w.1)
  nonce_is_nonce (nonce_cast i) = elim i [ ]

  -- the uses of a typing are those that the message and its type give
  pub uses_are : {m : Message} {t : Ty} (h : HasType [] e m t) → type_uses h ≡ message_uses m f t
  uses_are (msg_name h s) = refl
  uses_are msg_unit = refl
  uses_are msg_unit_un = refl
  uses_are (msg_pair {m} {n} {t} {u} h k) =
      let p = uses_are h in
      let q = uses_are k ∙ same_uses n f (ty_put m u) u (bare_map (put m) 0 u) in
      λ i. uses MsgPair (p i ++ q i)
  uses_are (msg_pair_un h k) = let p = uses_are h in let q = uses_are k in λ i. uses MsgPairUn (p i ++ q i)
  uses_are (msg_inl h) = ap (uses MsgInl) (uses_are h)
  uses_are (msg_inl_un h) = ap (uses MsgInlUn) (uses_are h)
  uses_are (msg_inr h) = ap (uses MsgInr) (uses_are h)
  uses_are (msg_inr_un h) = ap (uses MsgInrUn) (uses_are h)
  uses_are (msg_enc {m} {x} {t} h k) =
      let w = key_seen k in
      ap (uses MsgEnc) (uses_are h ∙ same_uses m f t w.0 (sym w.2)) ∙ ap (λ o. enc_uses (message_uses m f) (message_uses (name x) f) (key_in o)) (sym w.1)
  uses_are (msg_enc_un {m} {n} h k) =
      let p = uses_are h in
      let q = uses_are k in
      let r : uses MsgEncUn (type_uses h ++ type_uses k) ≡ uses MsgEncUn (message_uses m f un ++ message_uses n f un) = λ i. uses MsgEncUn (p i ++ q i) in
      r ∙ ap (enc_uses (message_uses m f) (message_uses n f)) (sym (un_no_key k))
  uses_are (msg_hash l) = refl
  uses_are (msg_cast i s) = elim i [ ]
