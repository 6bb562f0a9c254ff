-- Boards are told by how high and how wide their boxes are, and are not large.
use Rattle.std.proofs.Common.{◌≡◌, ◌*◌, ◌≤◌, mul-le-mul}
use mathlib.Core.HLevel.{is_prop→PathP}
use native.Mathlib.Bridge.{le_prop}
use Rattle.boards.specs.declared.board.Board.{Board}
use Rattle.boards.specs.Board.{cells, side}

pub board_same : (a b : Board) → a.height ≡ b.height → a.width ≡ b.width → a ≡ b
board_same a b h w = λ i. record {
  height = h i;
  width = w i;
  tall = is_prop→PathP (λ k. 1 ≤ h k) (λ k. le_prop) a.tall b.tall i;
  wide = is_prop→PathP (λ k. 1 ≤ w k) (λ k. le_prop) a.wide b.wide i;
  small = is_prop→PathP (λ k. h k * w k ≤ 16) (λ k. le_prop) a.small b.small i;
}

pub side_some : (b : Board) → 1 ≤ side b
side_some b = mul-le-mul b.tall b.wide

pub cells_small : (b : Board) → cells b ≤ 256
cells_small b = mul-le-mul b.small b.small
