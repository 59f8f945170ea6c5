-- The stack of what is to be done, which grows at its end.
use Rattle.std.proofs.Common.{◌≡◌, ℕ, ◌-◌, List, [], ◌∷◌, ◌++◌, length, map, reverse, take, sym, ap, ◌∙◌}
use Rattle.std.proofs.lemmas.List.{map-append, reverse-append}
use Rattle.std.specs.List.{take-map}
use denote.Ref.{Bor}
use Rattle.spi_term.specs.Term as Term
use Rattle.spi_term.specs.declared.term.Ty.{Ty}
use Rattle.spi_term.specs.Spelling.{Shape}
use Rattle.spi_term.specs.View as View
use Rattle.spi_rules.specs.Derivations.{RuleUse}
use Rattle.spi_deriv.specs.declared.agenda.Binding.{Binding}
use Rattle.spi_deriv.specs.Agenda.{types_of, bound_types, top_types, next_types, node_uses, IsAgendaSettled, IsPassed}

tops_last : (bs : List Binding) (b : Binding) → top_types (bs ++ b ∷ []) ≡ bound_types b ∷ top_types bs
tops_last bs b = ap reverse (map-append bound_types bs (b ∷ [])) ∙ reverse-append (map bound_types bs) (bound_types b ∷ [])

types_cut : (n : ℕ) (ts : List (Bor Ty)) → types_of (take n ts) ≡ take n (types_of ts)
types_cut n ts = sym (take-map (λ r. View.ty r.now) n ts)

pub settled : (scope w outer : ℕ) (last : Binding) (ps qs : List Binding) (old cut new : List (Bor Ty)) → ps ≡ qs ++ last ∷ [] → w ≡ length (bound_types last) → outer ≡ scope - w → cut ≡ take outer old → types_of new ≡ types_of cut ++ bound_types last → (b : List Term.Ty) (rest : List (List Term.Ty)) → top_types ps ≡ b ∷ rest → IsAgendaSettled scope b rest (types_of old) (types_of new) (top_types qs)
settled scope w outer last ps qs old cut new h n o c t b rest e =
    let f : bound_types last ∷ top_types qs ≡ b ∷ rest = sym (tops_last qs last) ∙ ap top_types (sym h) ∙ e in
    let g : bound_types last ≡ b = cc in
    let k : top_types qs ≡ rest = cc in
    let z : outer ≡ scope - length b = o ∙ ap (λ w. scope - w) (n ∙ ap length g) in
    record {
      types = t ∙ ap (λ l. types_of l ++ bound_types last) c ∙ ap (λ l. l ++ bound_types last) (types_cut outer old) ∙ ap (λ n. take n (types_of old) ++ bound_types last) z ∙ ap (λ b'. take (scope - length b) (types_of old) ++ b') g;
      left = k;
    }

pub passed : (scope : ℕ) (x : Shape) (old new : List Term.Ty) (stack left after : List (List Term.Ty)) (us vs : List RuleUse) → ((b : List Term.Ty) (rest : List (List Term.Ty)) → stack ≡ b ∷ rest → IsAgendaSettled scope b rest old new left) → vs ≡ us ++ node_uses new x → after ≡ next_types x ++ left → (b : List Term.Ty) (rest : List (List Term.Ty)) → stack ≡ b ∷ rest → IsPassed scope x b rest old new after us vs
passed scope x old new stack left after us vs s u n b rest e =
    let w = s b rest e in
    record { types = w.types; left = n ∙ ap (λ l. next_types x ++ l) w.left; uses = u }
