use Rattle.net_build.proofs.tops.add_leaves.Goals as goal

pub returns : goal.returns
returns c = record {
  leaves = c.in_ok-more.more.items;
  are = c.in_ok-more.ensures;
  is = c.in_ok-append.ensures.items;
}
