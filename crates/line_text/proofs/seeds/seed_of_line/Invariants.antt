use Rattle.std.proofs.Common.{◌≡◌, ◌*◌, ◌++◌, length, take, drop}
use Rattle.std.specs.List.{list_all}
use Rattle.line_text.specs.Seeds.{is_seed_digit, bytes_of_digits}
use Rattle.line_text.proofs.seeds.seed_of_line.Given as goal

abbrev pub invariant-loop-i : goal.invariant-loop-i
invariant-loop-i l = record {
  whole : length l.seed ≡ 32;
  digits : list_all is_seed_digit (drop (2 * l.i) l.line) ≡ list_all is_seed_digit l.line;
  so_far : take l.i l.seed ++ bytes_of_digits (drop (2 * l.i) l.line) ≡ bytes_of_digits l.line;
}
