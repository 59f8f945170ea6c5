-- The numbers of a form's messages and types.
use Rattle.std.specs.Prelude.{◌<◌, length, Option, Some, None, IfSome}
use Rattle.spi_term.specs.Term.{Message, Ty, un, Sends, Stops, Recvs, Serves, Splits, Selects, Decrypts, Checks, Begins, Ends, EndManys, Casts, Freshes, Branches, Pars}
use Rattle.spi_term.specs.Spelling.{Shape, leaf_at, prefix_at, fork_at}
use Rattle.spi_intern.specs.Given.{IsGiven}
use Rattle.spi_intern.specs.declared.messages.MsgId.{MsgId}
use Rattle.spi_intern.specs.declared.types.TyId.{TyId}
use Rattle.spi_message.specs.Judging.{Numbered}
use Rattle.spi_message.specs.Tested.{NumbersMessage, NumbersType}
use Rattle.spi_infer.specs.declared.terms.Terms.{Terms}

-- the terms of a form: its first message, its second, its first type and its second
pub record FormTerms : Type 0 where
  pub message : Option Message
  pub other : Option Message
  pub ty : Option Ty
  pub second : Option Ty

abbrev pub terms : Option Message → Option Message → Option Ty → Option Ty → FormTerms
terms m n t u = record { message = m; other = n; ty = t; second = u }

abbrev pub terms_in : Shape → FormTerms
terms_in (leaf_at k (Sends m n)) = terms (Some m) (Some n) None None
terms_in (leaf_at k Stops) = terms None None None None
terms_in (prefix_at k (Recvs m t) b) = terms (Some m) None (Some t) None
terms_in (prefix_at k (Serves m t) b) = terms (Some m) None (Some t) None
terms_in (prefix_at k (Splits m t u) b) = terms (Some m) None (Some t) (Some u)
terms_in (prefix_at k (Selects m t n u) b) = terms (Some m) (Some n) (Some t) (Some u)
terms_in (prefix_at k (Decrypts m t n) b) = terms (Some m) (Some n) (Some t) None
terms_in (prefix_at k (Checks m n) b) = terms (Some m) (Some n) None None
terms_in (prefix_at k (Begins m) b) = terms (Some m) None None None
terms_in (prefix_at k (Ends m) b) = terms (Some m) None None None
terms_in (prefix_at k (EndManys m) b) = terms (Some m) None None None
terms_in (prefix_at k (Casts m t) b) = terms (Some m) None (Some t) None
terms_in (prefix_at k (Freshes t) b) = terms None None (Some t) None
terms_in (fork_at k (Branches m t u) a r) = terms (Some m) None (Some t) (Some u)
terms_in (fork_at k Pars a r) = terms None None None None

-- the numbers of `Un` and of these terms
pub record AreNumbers (j : Numbered) (form : FormTerms) (numbers : Terms) : Type 0 where
  pub un : NumbersType j numbers.un un
  pub message : IfSome form.message (NumbersMessage j numbers.message)
  pub other : IfSome form.other (NumbersMessage j numbers.other)
  pub ty : IfSome form.ty (NumbersType j numbers.ty)
  pub second : IfSome form.second (NumbersType j numbers.second)

-- the numbers of `Un` and of a form's terms
abbrev pub AreTermsOf : Numbered → Shape → Terms → Type 0
AreTermsOf j x numbers = AreNumbers j (terms_in x) numbers

-- a number of a message of the judge, and of a type
abbrev pub IsMessage : Numbered → MsgId → Type 0
IsMessage j m = m.place < length j.store.messages

abbrev pub IsType : Numbered → TyId → Type 0
IsType j t = IsGiven j.store t.place
