use Rattle.std.proofs.Common.{length, arith}
use Rattle.chw_typing.proofs.FrontZeros.{zeros_there}
use Rattle.moved_in_place.proofs.zeros.zeros_in_front.Goals as goal

pub returns-then-n-most : goal.returns-then-n-most
returns-then-n-most c = record {
  within = omega arith;
  most_of = omega arith;
  zeros = zeros_there c.args.path.now c.loop-n.n (omega arith) c.loop-n.invariant.1;
  ends = λ less here. absurd (omega arith);
}

pub returns-then-i-ne0 : goal.returns-then-i-ne0
returns-then-i-ne0 c = record {
  within = omega arith;
  most_of = omega arith;
  zeros = zeros_there c.args.path.now c.loop-n.n (omega arith) c.loop-n.invariant.1;
  ends = λ less here. c.if-i-ne0.true;
}

pub returns : goal.returns
returns c = record {
  within = omega arith;
  most_of = omega arith;
  zeros = zeros_there c.args.path.now (length c.args.path.now) (omega arith) (λ k less. c.loop-n.invariant.1 k (omega arith));
  ends = λ less here. absurd (omega arith);
}
