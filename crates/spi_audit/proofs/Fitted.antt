-- A use that fits has one list of premises, of which there are as many as its rule's arity.
use Rattle.std.proofs.Common.{◌≡◌, refl, ap, [], ◌∷◌, List, length}
use Rattle.spi_term.specs.Term.{key, Ty}
use Rattle.spi_term.proofs.Lists.{at_unique}
use Rattle.spi_rules.specs.Derivations.{RuleUse}
use Rattle.spi_rules.specs.Rule.{arity}
use Rattle.spi_audit.specs.Fits.{Subject, of_message, Fits, fits_name, fits_unit, fits_unit_un, fits_pair, fits_pair_un, fits_inl, fits_inl_un, fits_inr, fits_inr_un, fits_enc, fits_enc_un, fits_hash, fits_stop, fits_out, fits_in, fits_repeat, fits_split, fits_split_un, fits_match, fits_match_un, fits_case, fits_case_un, fits_decrypt, fits_decrypt_un, fits_check, fits_check_un, fits_begin, fits_end, fits_end_many, fits_cast, fits_cast_un, fits_new, fits_par, fits_sub}

payload_one : {t u : Ty} → key t ≡ key u → t ≡ u
payload_one e = cc

pub fits_one : {u : RuleUse} {s : Subject} {ps qs : List Subject} → Fits u s ps → Fits u s qs → ps ≡ qs
fits_one (fits_name a q) (fits_name b r) = refl
fits_one fits_unit fits_unit = refl
fits_one fits_unit_un fits_unit_un = refl
fits_one fits_pair fits_pair = refl
fits_one fits_pair_un fits_pair_un = refl
fits_one fits_inl fits_inl = refl
fits_one fits_inl_un fits_inl_un = refl
fits_one fits_inr fits_inr = refl
fits_one fits_inr_un fits_inr_un = refl
fits_one (fits_enc {env = env} {m = m} a) (fits_enc b) = ap (λ t. of_message env m t ∷ []) (payload_one (at_unique a b))
fits_one fits_enc_un fits_enc_un = refl
fits_one (fits_hash l) (fits_hash k) = refl
fits_one fits_stop fits_stop = refl
fits_one fits_out fits_out = refl
fits_one fits_in fits_in = refl
fits_one fits_repeat fits_repeat = refl
fits_one (fits_split g) (fits_split h) = refl
fits_one fits_split_un fits_split_un = refl
fits_one (fits_match g) (fits_match h) = refl
fits_one fits_match_un fits_match_un = refl
fits_one (fits_case g h) (fits_case i j) = refl
fits_one fits_case_un fits_case_un = refl
fits_one (fits_decrypt g) (fits_decrypt h) = refl
fits_one fits_decrypt_un fits_decrypt_un = refl
fits_one (fits_check n) (fits_check o) = refl
fits_one fits_check_un fits_check_un = refl
fits_one (fits_begin l) (fits_begin k) = refl
fits_one (fits_end l) (fits_end k) = refl
fits_one (fits_end_many l) (fits_end_many k) = refl
fits_one (fits_cast g) (fits_cast h) = refl
fits_one fits_cast_un fits_cast_un = refl
fits_one (fits_new i g) (fits_new j h) = refl
fits_one fits_par fits_par = refl
fits_one (fits_sub g) (fits_sub h) = refl

pub fits_arity : {u : RuleUse} {s : Subject} {ps : List Subject} → Fits u s ps → length ps ≡ arity u.rule
fits_arity (fits_name a q) = refl
fits_arity _ = refl
