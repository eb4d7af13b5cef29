use Rattle.std.proofs.Common.{map}
use Rattle.std.specs.Prelude.{reverse}
use Rattle.chw_types.specs.TypeMoves.{shift}
use Rattle.chw_terms.specs.TermTree.{var}
use Rattle.chw_typing.specs.Scopes.{setting_in}
use Rattle.term_types.specs.Answers.{IsAnswer}
use Rattle.term_frames.specs.VarsView.{IsAt}
use Rattle.seen_types.proofs.Matched.{ok_more}
use Rattle.term_types.proofs.Plain.{var_told}
use Rattle.term_types.proofs.heads.variable.Goals as goal

pub returns : goal.returns
returns c =
    let s = setting_in c.args.scene.now in
    let kinds = reverse c.args.kinds.now in
    let scope = c.args.vars.now in
    let n = c.args.at.number in
    ok_more c.at.result (IsAt (map (λ t. shift t 0 0) scope.vars) scope.kinds n) (IsAnswer s kinds scope.vars (var n)) (λ r a. var_told s kinds scope n r c.requires a) c.at.ensures
