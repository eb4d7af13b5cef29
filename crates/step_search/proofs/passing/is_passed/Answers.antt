use Rattle.std.proofs.Common.{◌≡◌, ◌∙◌, length, sym, ap, subst, arith}
use Rattle.active_parts.specs.Parts.{arguments_of, numbers_of, part_path, path_to, IsAmong}
use Rattle.active_parts.proofs.Spines.{all_arguments}
use Rattle.rewriting.specs.Active.{Below}
use Rattle.trials.specs.Trials.{built}
use Rattle.step_search.specs.Begins.{IsPassed}
use Rattle.step_search.specs.First.{AtPath}
use Rattle.step_search.proofs.Onward.{none_passed}
use Rattle.step_search.proofs.passing.is_passed.Goals as goal

pub path_to-requires : goal.path_to-requires
path_to-requires c =
    let e = c.args.at.now in
    let args = c.at.inside.args.items in
    let all : arguments_of e ≡ length args = ap arguments_of (sym c.at.view_is) ∙ all_arguments c.at.inside.head args in
    let count : arguments_of e ≡ c.len.result = omega (arith, all, c.len.ensures, c.at.inside.args.ok.0) in
    subst (λ n. IsAmong n c.args.number) count c.requires

pub returns-in_default : goal.returns-in_default
returns-in_default c is o at sound typed =
    let e = c.args.at.now in
    let n = c.args.number in
    let from = c.args.from.now in
    let args = c.at.inside.args.items in
    let all : arguments_of e ≡ length args = ap arguments_of (sym c.at.view_is) ∙ all_arguments c.at.inside.head args in
    let count : c.len.result ≡ arguments_of e = omega (arith, all, c.len.ensures, c.at.inside.args.ok.0) in
    let numbers : numbers_of c.in_ok-path.path ≡ path_to e n = c.in_ok-path.ensures ∙ ap (λ k. part_path k n) count in
    none_passed built o (AtPath (Below o at e) (path_to e n)) (path_to e n) from (λ p at' x h. h.0)
    (subst (λ p. IsPassed p from) numbers c.in_default.ensures)

pub returns : goal.returns
returns c is = c.is_quiet_part.ensures is c.args.from.now
