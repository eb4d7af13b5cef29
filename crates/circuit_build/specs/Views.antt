-- Right sides, blocks, lifted terms and constants as they are read.
use Rattle.std.specs.Prelude.{◌≡◌, List, []}
use Rattle.chw_prims.specs.declared.prim.Primitive.TheVariants.{Fmap, Ap, Pure, Register, BlockRam}
use Rattle.chw_prims.specs.declared.prim.Primitive.TheVariants.{UnsafeSynchronizer}
use Rattle.chw_types.specs.declared.kind.Scalar.{Scalar}
use Rattle.chw_types.specs.TypeTree.{TypeTree}
use Rattle.chw_terms.specs.declared.term.Arg.{Arg}
use Rattle.chw_terms.specs.TermTree.{TermTree, var, made, con, prim, lit, vec_lit, letrec, case_of}
use Rattle.chw_terms.specs.TermView.{applied, alts_of, group_of, terms_of}
use Rattle.circuit_build.specs.Arguments.{steady_args, delay_args, memory_args, crossing_args}
use Rattle.circuit_build.specs.Arguments.{lifting_args}
use Rattle.circuit_build.specs.Lifting.{lifting}
use Rattle.circuit_build.specs.Shapes.{IsMade, IsSomeLifted}
use Rattle.circuit_build.specs.declared.views.Block.{Block}
use Rattle.circuit_build.specs.declared.views.Block.TheVariants.{Variable, Letrec}
use Rattle.circuit_build.specs.declared.views.CircuitSide.{CircuitSide}
use Rattle.circuit_build.specs.declared.views.CircuitSide.TheVariants as side
use Rattle.circuit_build.specs.declared.views.Constant.{Constant}
use Rattle.circuit_build.specs.declared.views.Constant.TheVariants as constant
use Rattle.circuit_build.specs.declared.views.Lifted.{Lifted}
use Rattle.circuit_build.specs.declared.views.Lifted.TheVariants.{OnOne, OnMore}

-- the head of a right side
abbrev pub side_head : CircuitSide → TermTree
side_head (side.Copy x) = var x.number
side_head (side.Constant p) = prim Pure
side_head (side.Register p) = prim Register
side_head (side.Memory p) = prim BlockRam
side_head (side.Crossing p) = prim UnsafeSynchronizer
side_head (side.Mapped p) = prim Fmap
side_head (side.Lifted p) = prim Ap
side_head (side.Call m args) = made m.number
side_head (side.Product c args) = con c.number
side_head (side.Projection on alts) = case_of on.now (alts_of alts.now)

-- and its arguments
abbrev pub side_args : CircuitSide → List Arg
side_args (side.Copy x) = []
side_args (side.Constant p) = steady_args p
side_args (side.Register p) = delay_args p
side_args (side.Memory p) = memory_args p
side_args (side.Crossing p) = crossing_args p
side_args (side.Mapped p) = lifting_args p
side_args (side.Lifted p) = lifting_args p
side_args (side.Call m args) = args.now
side_args (side.Product c args) = args.now
side_args (side.Projection on alts) = []

-- a block as a term
abbrev pub block_term : Block → TermTree
block_term (Variable x) = var x.number
block_term (Letrec bindings body) = letrec (group_of bindings.now) body.now

-- a lifted term is read so
abbrev pub IsReadLifted : Lifted → TermTree → Type 0
IsReadLifted (OnOne p) u = (u ≡ lifting Fmap p) × IsMade p.function.now
IsReadLifted (OnMore p) u = (u ≡ lifting Ap p) × IsSomeLifted p.function.now

-- a constant is read so
abbrev pub IsReadConstant : Constant → TermTree → Type 0
IsReadConstant (constant.Literal bits) e = (s : Scalar) × (e ≡ lit s bits.now)
IsReadConstant (constant.Vector es) e = (t : TypeTree) × (e ≡ vec_lit t (terms_of es.now))
IsReadConstant (constant.Data c args) e = e ≡ applied (con c.number) args.now
