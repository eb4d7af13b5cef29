-- The design of a normal state to which a run leads, and the module of its top.
use Rattle.std.specs.Prelude.{slice_get}
use Rattle.std.proofs.Common.{◌≡◌, ℕ, zero, suc, ◌+◌, List, [], ◌∷◌, ◌++◌, length, Some, sym, ap, subst, arith, length-append}
use Rattle.chw_terms.specs.declared.program.Program.{Program}
use Rattle.chw_terms.specs.declared.scene.Made.{Made}
use Rattle.chw_typing.specs.Programs.{IsSound}
use Rattle.rewriting.specs.Origins.{setting_at}
use Rattle.rewriting.specs.Steps.{origins_in}
use Rattle.normal_forms.specs.Laws.{OneWhole}
use Rattle.normal_forms.specs.Normal.{IsNormal}
use Rattle.chw_layout.specs.Encodes.{HaveConstructors}
use Rattle.netlist.specs.declared.net.Module.{Module}
use Rattle.netlist.specs.declared.net.Net.{Net}
use Rattle.net_flat.specs.Flattened.{IsTop}
use Rattle.net_built.specs.Built.{Built, ground_of}
use Rattle.net_built.specs.Modules.{IsModuleOf}
use Rattle.net_means.proofs.NetFits.Drivers.{module_at, as_many}
use Rattle.net_means.specs.CircuitBits.Instances.{Design}
use Rattle.net_means.proofs.Wholes.{AreWholes, whole, wholes_are}

abbrev pub design : OneWhole → (p : Program) (state : List Made) (net : Net) → IsSound (setting_at (origins_in p state)) → HaveConstructors p.datas → IsNormal p state → Built p state net → AreWholes state → Design
design one p state net sound constructors normal built are =
    record {
      program = p;
      state = state;
      sound = sound;
      constructors = constructors;
      normal = normal;
      net = net;
      built = built;
      wholes = whole state are;
      are_wholes = wholes_are state are one;
    }

last_there : (below : List ℕ) (m i n : ℕ) → i ≡ length below → slice_get (below ++ m ∷ []) i ≡ Some n → m ≡ n
last_there [] m zero n l e = cc
last_there [] m (suc i) n l e = absurd (omega (arith, l))
last_there (k ∷ below) m zero n l e = absurd (omega (arith, l))
last_there (k ∷ below) m (suc i) n l e = last_there below m i n (omega (arith, l)) e

-- the last module is that of the first made definition
pub record TopModule (p : Program) (state : List Made) (net : Net) (of : Built p state net) (m : Module) : Type 0 where
  pub it : Made
  pub is_first : slice_get state 0 ≡ Some it
  pub made_of : IsModuleOf (ground_of p of.order) it m

pub top_module : (p : Program) (state : List Made) (net : Net) (of : Built p state net) (place : ℕ) (m : Module) → IsTop net place m → TopModule p state net of m
top_module p state net of place m top =
    let below : List ℕ = of.is_order.below in
    let at = module_at (ground_of p of.order) state of.order net.modules place m of.modules top.stands in
    let many = as_many (ground_of p of.order) state of.order net.modules of.modules in
    let longer : length (below ++ 0 ∷ []) ≡ length below + 1 = length-append below (0 ∷ []) in
    let size : length of.order ≡ length (below ++ 0 ∷ []) = ap (λ (l : List ℕ). length l) of.is_order.whole in
    let last = top.last in
    let end : place ≡ length below = omega (arith, last, many, longer, size) in
    let number : 0 ≡ at.number = last_there below 0 place at.number end (subst (λ l. slice_get l place ≡ Some at.number) of.is_order.whole at.here) in
    record { it = at.it; is_first = subst (λ n. slice_get state n ≡ Some at.it) (sym number) at.is; made_of = at.made_of }
