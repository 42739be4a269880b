-- All bells of a board are down once a round was joined: nobody can pay more, and the next round raises nothing.
use Rattle.std.proofs.Common.{◌≡◌, ℕ, List, [], ◌∷◌, sum, sym, ap, subst, arith}
use mathlib.Core.Logic.{dite}
use native.Mathlib.Decide.{ℕ_discrete}
use Rattle.clr_net.specs.Limits.{IsNetwork}
use Rattle.clr_net.specs.Net.{Net}
use Rattle.clr_net.proofs.Lists.{sum-le}
use Rattle.clear_core.specs.Clearing.{least}
use Rattle.clear_core.specs.declared.event.Raise.{Raise}
use Rattle.pay_words.specs.Traces.{start_of}
use Rattle.pay_words.specs.Views.{BoardView, opening}
use Rattle.pay_words.specs.declared.view.Shown.{Shown}
use Rattle.settle.specs.Bells.{AreAllDown, IsIdle, NobodyCanPayMore}
use Rattle.settle.specs.Between.{IsRoundOf}
use Rattle.settle.specs.Drives.{AreRoundsFrom, IsPlan}
use Rattle.settle.specs.declared.plan.Plan.{Plan}
use Rattle.settle.proofs.AllDown.{idle_between, nobody_once_down}
use Rattle.settle.proofs.ByHand.{opened_stands}
use Rattle.settle.proofs.Ended.{idle_after}

-- at the end of a round
pub nobody_after_round : (board : BoardView) (plan : Plan) (units visits : ℕ) (s t : Shown) (words : List ℕ) → IsPlan plan
    → IsRoundOf board.net plan units visits s t → AreAllDown board words t → NobodyCanPayMore board.net words t
nobody_after_round board plan units visits s t words limits round down =
    nobody_once_down board words t down (idle_after board.net plan units visits s t down.rule.network limits.some_workers round)

-- after any rounds of a run the master is idle
idle_in_run : (net : Net) (past : List Raise) (plan : Plan) (ns : List ℕ) (s : Shown) → IsNetwork net → IsPlan plan
    → AreRoundsFrom net plan (opening net (start_of net past)) ns s → IsIdle net s
idle_in_run net past plan [] s network limits is = subst (IsIdle net) (sym is) (idle_between net (opening net (start_of net past)) (opened_stands net past network))
idle_in_run net past plan (n ∷ ns) s network limits (m, visits, before, round) = idle_after net plan n visits m s network limits.some_workers round

-- with all bells down after some rounds nobody can pay more
pub nobody_in_run : (board : BoardView) (plan : Plan) (ns : List ℕ) (s : Shown) (words : List ℕ) → IsPlan plan
    → AreRoundsFrom board.net plan (opening board.net (start_of board.net board.past)) ns s
    → AreAllDown board words s → NobodyCanPayMore board.net words s
nobody_in_run board plan ns s words limits rounds down =
    nobody_once_down board words s down (idle_in_run board.net board.past plan ns s down.rule.network limits rounds)

-- a round that begins with the least payments raises nothing
nothing_above_least : (net : Net) (plan : Plan) (units visits : ℕ) (s t : Shown) → s.paid ≡ least net
    → IsRoundOf net plan units visits s t → units ≡ 0
nothing_above_least net plan units visits s t paid round = dite (ℕ_discrete units 0) (λ none. none) (λ some.
    absurd (omega (arith, round.some_rose some, sum-le t.paid (least net) round.paid_low, ap sum paid)))

-- and the next round raises nothing
pub next_raises_nothing : (board : BoardView) (plan : Plan) (ns : List ℕ) (s t : Shown) (words : List ℕ) (units visits : ℕ) → IsPlan plan
    → AreRoundsFrom board.net plan (opening board.net (start_of board.net board.past)) ns s
    → AreAllDown board words s → IsRoundOf board.net plan units visits s t → units ≡ 0
next_raises_nothing board plan ns s t words units visits limits rounds down round =
    nothing_above_least board.net plan units visits s t (nobody_in_run board plan ns s words limits rounds down).paid round
