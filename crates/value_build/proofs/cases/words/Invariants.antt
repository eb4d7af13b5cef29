-- the words so far, with those that are left, are all
use Rattle.std.proofs.Common.{◌≡◌, ◌++◌, ◌-◌, drop}
use Rattle.chw_terms.specs.TermView.{alts_of}
use Rattle.net_built.specs.Data.{words_of}
use Rattle.value_build.specs.Tests.{first_of}
use Rattle.value_build.proofs.cases.words.Given as goal

abbrev pub invariant-loop-i : goal.invariant-loop-i
invariant-loop-i l =
    l.words.items ++ words_of l.bits (first_of l.base.datas l.ty) (alts_of (drop (l.i - 1) l.alts))
    ≡ words_of l.bits (first_of l.base.datas l.ty) (alts_of l.alts)
