-- What `clap`'s matches say of the subcommand.
use Rattle.std.proofs.Common.{◌≡◌, sym, ap₂, List, Option, Some, None, option_map}
use Rattle.std.specs.Prelude.{Box}
use Rattle.std.proofs.lemmas.Option.{same_Some}
use Rattle.std.specs.Box.{box_value}
use Rattle.clap.specs.Matches.{subcommand_name_of}
use Rattle.clap.specs.Walk.{Row, Text}
use Rattle.clap.specs.Simple.{subcommand_rows, subcommand_rows_of}
use Rattle.clap.specs.declared.parser.matches.ArgMatches.{ArgMatches}
use Rattle.clap.specs.declared.parser.matches.ArgMatches.TheViews.{out-ArgMatches, out-SubCommand}
use Rattle.clap.specs.declared.parser.matches.SubCommand.{SubCommand}

both_in : {Z : Type 0} (o : Option (Box SubCommand Z)) (name : Text) (rows : List Row)
    → Some name ≡ option_map (λ b. (out-SubCommand (box_value b)).name.now) o → Some rows ≡ option_map (λ p. p.1) (subcommand_rows o)
    → subcommand_rows o ≡ Some (name, rows)
both_in None name rows n r = cc
both_in (Some b) name rows n r = ap₂ (λ x y. Some (x, y)) (sym (same_Some _ _ n)) (sym (same_Some _ _ r))

-- the subcommand's name and rows, taken one by one
pub name_and_rows : (m : ArgMatches) (name : Text) (rows : List Row) → Some name ≡ subcommand_name_of m
    → Some rows ≡ option_map (λ p. p.1) (subcommand_rows (out-ArgMatches m).subcommand) → subcommand_rows_of m ≡ Some (name, rows)
name_and_rows m name rows n r = both_in (out-ArgMatches m).subcommand name rows n r
