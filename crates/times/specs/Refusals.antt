-- The number that each refusal returns.
use Rattle.std.specs.Prelude.{ℕ}
use Rattle.times.specs.declared.refusal.Refusal.{Refusal}
use Rattle.times.specs.declared.refusal.Refusal.TheVariants.{WrongClock, CraftRange, SameCraft, Entered, NotEntered, HalfSize, SlotRange, PlanRules, LegLimit, LevelRange, GoalRange, GoalPast, NothingDue, SomethingDue, Room, Numbers, Scale, QueueHolds}

abbrev pub number_of : Refusal → ℕ
number_of WrongClock = 1
number_of CraftRange = 2
number_of SameCraft = 3
number_of Entered = 4
number_of NotEntered = 5
number_of HalfSize = 6
number_of SlotRange = 7
number_of PlanRules = 8
number_of LegLimit = 9
number_of LevelRange = 10
number_of GoalRange = 11
number_of GoalPast = 12
number_of NothingDue = 13
number_of SomethingDue = 14
number_of Room = 15
number_of Numbers = 16
number_of Scale = 17
number_of QueueHolds = 18
