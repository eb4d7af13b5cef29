-- Cycles of a letrec as a term.
use Rattle.std.proofs.Common.{◌≡◌, ◌∙◌, sym, ap, subst, ℕ, List, Option, Some, None}
use Rattle.std.specs.Prelude.{Vec}
use Rattle.std.specs.declared.alloc.Global.{Global}
use Rattle.chw_types.specs.declared.declarations.Data.{Data}
use Rattle.chw_terms.specs.declared.scene.Mode.{Mode}
use Rattle.chw_terms.specs.declared.term.Binding.{Binding}
use Rattle.chw_terms.specs.TermTree.{TermTree, letrec}
use Rattle.chw_terms.specs.TermView.{group_of}
use Rattle.blocked_places.specs.Cycles.{IsCycleOf, HasCycle, FindsRound, FindsCycle}
use Rattle.blocked_places.proofs.Shapes.{same_group}

pub cycle_of_letrec : (datas : List Data) (mode : Mode) (e : TermTree) (bs read : List Binding)
    (x : TermTree) (answer : Option (Vec ℕ Global))
    → e ≡ letrec (group_of bs) x → read ≡ bs → FindsRound datas mode (group_of read) answer
    → FindsCycle datas mode e answer
cycle_of_letrec datas mode e bs read x None is same none = λ cycle h.
    let group = same_group h.group (group_of bs) h.body x (sym h.is ∙ is) in
    none cycle (subst (λ g. IsCycleOf datas mode g cycle) (group ∙ sym (ap group_of same)) h.round)
cycle_of_letrec datas mode e bs read x (Some v) is same h =
    let cycle : HasCycle datas mode e v.items =
    record {
      group = group_of bs;
      body = x;
      is = is;
      round = subst (λ ds. IsCycleOf datas mode (group_of ds) v.items) same h.0;
    } in
    (cycle, h.1)
