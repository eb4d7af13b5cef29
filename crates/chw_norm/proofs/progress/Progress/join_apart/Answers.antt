use Rattle.std.proofs.Common.{refl, subst}
use Rattle.made_table.specs.Held.{IsPartSwapped}
use Rattle.chw_norm.proofs.Joined.{JoinLaws, joined_put}
use Rattle.chw_norm.proofs.progress.Progress.join_apart.Goals as goal

pub returns : goal.returns
returns c new f =
    let laws : JoinLaws = record {
      joined = c.joined_is_no_deeper.ensures;
      parts = c.with_part_no_deeper.ensures;
      back = c.swapped_back.ensures;
    } in
    let r = c.args.self.now in
    let n = c.args.at.now.made.number in
    let mid = c.swap_part.new.self in
    let path = c.as_slice-path.ensures.value in
    joined_put laws c.args.at.now new r _ mid c.list.result.now c.args.part.now
    c.swap_part.new.other c.join.new.term c.swap_part-2.new.other c.swap_part.result
    c.swap_part-2.result c.index.result.now c.exact_over_limit-bound.result
    c.index-list-number.result f
    (subst (λ p. IsPartSwapped r.made n f.it p c.args.part.now mid c.swap_part.new.other
    c.swap_part.result) path (c.swap_part.ensures f.it f.is))
    c.in_ok-join.ensures
    (λ x is. subst (λ p. IsPartSwapped mid n x p c.join.new.term c.swap_part-2.new.self
    c.swap_part-2.new.other c.swap_part-2.result) path (c.swap_part-2.ensures x is))
    c.index.ensures c.list.ensures c.exact_over_limit-bound.ensures.bound
    c.exact_over_limit-bound.ensures.exact refl refl refl
