use Rattle.std.proofs.Common.{refl, ap, subst}
use Rattle.spi_term.specs.View.{shape_of, shape_of_form}
use Rattle.spi_intern.proofs.Meanings.{means_keeps}
use Rattle.spi_count.proofs.Kept.{keyed_here, grows_key}
use Rattle.spi_infer.specs.declared.own.Own.TheVariants.{Label, Checked, Cast}
use Rattle.spi_infer.specs.Terms.{AreTermsOf}
use Rattle.spi_infer.proofs.Kept.{paid_fits, fits_as, begin_fits, fits_at, quiet_fits, quiet_rest}
use Rattle.spi_infer.proofs.keeping.own_of.Goals as goal

pub returns-in_ok-keep-in-Check-clause-fits : goal.returns-in_ok-keep-in-Check-clause-fits
returns-in_ok-keep-in-Check-clause-fits c =
    let q = ap (shape_of_form c.args.node.now.scope) c.in-Check.is in
    let w = subst (λ x. AreTermsOf c.args.judge.now x c.args.terms) q c.requires.terms in
    fits_as c.args.judge.now c.args.judge.now c.keep.new.self (Checked c.args.terms.message c.nonce_at-paid.result) q (λ e s. (c.args.terms.message, c.nonce_at-paid.result, refl, keyed_here c.args.judge.now.store c.args.keys.now c.keep.new.self c.args.terms.message.place _ w.message c.in_ok-keep-in-Check.ensures.small c.in_ok-keep-in-Check.ensures.kept, paid_fits {s = c.args.judge.now.store} c.nonce_at-paid.result e _ _ _ c.nonce_at-paid.ensures.some c.nonce_at-paid.ensures.none (λ t h. h.at e s) (λ h. h.at e s)))

pub returns-in_ok-keep-in-Check-clause-grows : goal.returns-in_ok-keep-in-Check-clause-grows
returns-in_ok-keep-in-Check-clause-grows c =
    let q = ap (shape_of_form c.args.node.now.scope) c.in-Check.is in
    let w = subst (λ x. AreTermsOf c.args.judge.now x c.args.terms) q c.requires.terms in
    grows_key c.args.judge.now.store c.args.keys.now c.keep.new.self c.args.terms.message.place _ w.message c.in_ok-keep-in-Check.ensures.small c.in_ok-keep-in-Check.ensures.kept c.requires.keys

pub returns-in_ok-keep-in-End-clause-fits : goal.returns-in_ok-keep-in-End-clause-fits
returns-in_ok-keep-in-End-clause-fits c =
    let q = ap (shape_of_form c.args.node.now.scope) c.in-End.is in
    let w = subst (λ x. AreTermsOf c.args.judge.now x c.args.terms) q c.requires.terms in
    fits_as c.args.judge.now c.args.judge.now c.keep-in-End.new.self (Label c.args.terms.message) q (λ e s. (c.args.terms.message, refl, keyed_here c.args.judge.now.store c.args.keys.now c.keep-in-End.new.self c.args.terms.message.place _ w.message c.in_ok-keep-in-End.ensures.small c.in_ok-keep-in-End.ensures.kept))

pub returns-in_ok-keep-in-End-clause-grows : goal.returns-in_ok-keep-in-End-clause-grows
returns-in_ok-keep-in-End-clause-grows c =
    let q = ap (shape_of_form c.args.node.now.scope) c.in-End.is in
    let w = subst (λ x. AreTermsOf c.args.judge.now x c.args.terms) q c.requires.terms in
    grows_key c.args.judge.now.store c.args.keys.now c.keep-in-End.new.self c.args.terms.message.place _ w.message c.in_ok-keep-in-End.ensures.small c.in_ok-keep-in-End.ensures.kept c.requires.keys

pub returns-in_ok-keep-in-EndMany-clause-fits : goal.returns-in_ok-keep-in-EndMany-clause-fits
returns-in_ok-keep-in-EndMany-clause-fits c =
    let q = ap (shape_of_form c.args.node.now.scope) c.in-EndMany.is in
    let w = subst (λ x. AreTermsOf c.args.judge.now x c.args.terms) q c.requires.terms in
    fits_as c.args.judge.now c.args.judge.now c.keep-in-EndMany.new.self (Label c.args.terms.message) q (λ e s. (c.args.terms.message, refl, keyed_here c.args.judge.now.store c.args.keys.now c.keep-in-EndMany.new.self c.args.terms.message.place _ w.message c.in_ok-keep-in-EndMany.ensures.small c.in_ok-keep-in-EndMany.ensures.kept))

pub returns-in_ok-keep-in-EndMany-clause-grows : goal.returns-in_ok-keep-in-EndMany-clause-grows
returns-in_ok-keep-in-EndMany-clause-grows c =
    let q = ap (shape_of_form c.args.node.now.scope) c.in-EndMany.is in
    let w = subst (λ x. AreTermsOf c.args.judge.now x c.args.terms) q c.requires.terms in
    grows_key c.args.judge.now.store c.args.keys.now c.keep-in-EndMany.new.self c.args.terms.message.place _ w.message c.in_ok-keep-in-EndMany.ensures.small c.in_ok-keep-in-EndMany.ensures.kept c.requires.keys

pub returns-in-Begin-clause-fits : goal.returns-in-Begin-clause-fits
returns-in-Begin-clause-fits c =
    let q = ap (shape_of_form c.args.node.now.scope) c.in-Begin.is in
    let w = subst (λ x. AreTermsOf c.args.judge.now x c.args.terms) q c.requires.terms in
    begin_fits c.args.judge.now c.args.judge.now c.args.keys.now _ c.args.terms.message q w.message

pub returns-in_ok-keep_cast-in-Cast-clause-fits : goal.returns-in_ok-keep_cast-in-Cast-clause-fits
returns-in_ok-keep_cast-in-Cast-clause-fits c =
    let q = ap (shape_of_form c.args.node.now.scope) c.in-Cast.is in
    let w = subst (λ x. AreTermsOf c.args.judge.now x c.args.terms) q c.requires.terms in
    fits_as c.args.judge.now c.keep_cast.new.judge c.keep_cast.new.keys (Cast c.args.terms.ty) q (λ e s. (c.args.terms.ty, refl, means_keeps c.in_ok-keep_cast-in-Cast.ensures.kept.store w.ty, c.in_ok-keep_cast-in-Cast.ensures.at))

pub returns-in-Fresh-clause-fits : goal.returns-in-Fresh-clause-fits
returns-in-Fresh-clause-fits c =
    fits_at c.args.judge.now c.fresh_own.new.judge c.fresh_own.new.keys (shape_of c.args.node.now) (ap (shape_of_form c.args.node.now.scope) c.in-Fresh.is) c.fresh_own.result c.fresh_own.ensures.fits (λ own f e s. f)

pub returns-in_default-clause-fits : goal.returns-in_default-clause-fits
returns-in_default-clause-fits c =
    quiet_fits c.args.judge.now c.args.judge.now c.args.keys.now (shape_of c.args.node.now) _
    (quiet_rest c.args.node.now.scope c.args.node.now.form c.in_default.not-Check c.in_default.not-Begin c.in_default.not-End c.in_default.not-EndMany c.in_default.not-Cast c.in_default.not-Fresh)
