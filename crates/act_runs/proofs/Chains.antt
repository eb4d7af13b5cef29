-- Chains of typed closed terms.
use Rattle.std.proofs.Common.{[]}
use Rattle.chw_types.specs.TypeTree.{TypeTree}
use Rattle.chw_terms.specs.declared.program.Program.{Program}
use Rattle.chw_terms.specs.TermTree.{TermTree}
use Rattle.chw_typing.specs.Programs.{setting_of}
use Rattle.chw_typing.specs.Typing.{HasTypeUpTo}
use Rattle.acts.specs.Terms.{Chain, chain_end, chain_and}
use Rattle.act_runs.specs.States.{TypedChain, typed_end, typed_and}

pub chain_joined : {p : Program} {t : TypeTree} {c b a : TermTree} → TypedChain p t c b → TypedChain p t b a → TypedChain p t c a
chain_joined (typed_end d) more = more
chain_joined (typed_and d acts rest) more = typed_and d acts (chain_joined rest more)

-- the last term is typed, and so is the first
pub chain_last : {p : Program} {t : TypeTree} {c a : TermTree} → TypedChain p t c a → HasTypeUpTo (setting_of p) [] [] a t
chain_last (typed_end d) = d
chain_last (typed_and d acts rest) = chain_last rest

pub chain_first : {p : Program} {t : TypeTree} {c a : TermTree} → TypedChain p t c a → HasTypeUpTo (setting_of p) [] [] c t
chain_first (typed_end d) = d
chain_first (typed_and d acts rest) = d

pub chain_plain : {p : Program} {t : TypeTree} {c a : TermTree} → TypedChain p t c a → Chain p t c a
chain_plain (typed_end d) = chain_end
chain_plain (typed_and d acts rest) = chain_and acts (chain_plain rest)
