use Rattle.std.proofs.Common.{sym, ◌∙◌}
use Rattle.std.proofs.lemmas.Bool.{false≢true}
use Rattle.std.specs.Prelude.{reverse}
use Rattle.chw_typing.specs.Scopes.{setting_in}
use Rattle.term_spines.proofs.Settled.{of_others, of_none}
use Rattle.term_spines.proofs.kinding.kind_of_terms.Goals as goal

pub returns-in_default : goal.returns-in_default
returns-in_default c = of_none (setting_in c.args.scene.now) (reverse c.args.kinds.now) c.args.ty.now c.in_default.ensures

pub returns-then-is_of_terms : goal.returns-then-is_of_terms
returns-then-is_of_terms c = (c.in-Some.ensures, c.is_of_terms.ensures.0 c.if-is_of_terms.true)

pub returns-else-is_of_terms : goal.returns-else-is_of_terms
returns-else-is_of_terms c = of_others (setting_in c.args.scene.now) (reverse c.args.kinds.now) c.args.ty.now c.in-Some.kind c.in-Some.ensures (λ of. false≢true (sym c.if-is_of_terms.false ∙ c.is_of_terms.ensures.1 of))
