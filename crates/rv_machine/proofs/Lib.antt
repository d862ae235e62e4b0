pub mod RunWidths
pub mod RunWords
pub mod Deciding
pub mod Places
pub mod Bound
pub mod Filling
pub mod Holds
pub mod Moving
pub mod Ordering
pub mod OwnHolds
pub mod Sixteen
pub mod Standing
pub mod Stopping
pub mod Asking
pub mod Before
pub mod Clearing
pub mod Counting
pub mod Flushing
pub mod Future
pub mod GoesNext
pub mod Going
pub mod Loading
pub mod MadeRow
pub mod Moves
pub mod NextPlaces
pub mod NextRow
pub mod Operands
pub mod Past
pub mod Reading
pub mod Retiring
pub mod Ripe
pub mod Runs
pub mod Settling
pub mod Tails
pub mod TailsAfter
pub mod Telling
pub mod Trying
pub mod Unspawned
pub mod Recorded
pub mod Unwritten
pub mod OwingNext
pub mod Swaps
pub mod Repaying
pub mod RepaidNext
pub mod ApartNext
pub mod Apart
pub mod PaidFile
pub mod FileNext
pub mod FileTold
pub mod ShownTold
pub mod Numbers
pub mod Idle
pub mod UnitsNext
pub mod Settled
pub mod Meeting
pub mod Agreeing
pub mod EachRow
pub mod First
pub mod EntryNext
pub mod GoesOn
pub mod Lawful
pub mod NextCounts
pub mod Answered
pub mod OneMore
pub mod Succeeding
pub mod Turns
pub mod Entered
pub mod Carried
pub mod Nearing
pub mod WideFuture
pub mod Promised
pub mod Worded
pub mod Owes
pub mod Older
pub mod Least
pub mod BoardHolds
pub mod UnitHolds
pub mod DrainHolds
pub mod UnitBound
pub mod RankStays
pub mod Lone
pub mod Pigeonhole
pub mod Listed
pub mod FewOwed
pub mod FewEntries
pub mod Repaid
pub mod WrittenWords
pub mod Ranged
pub mod Unowed
pub mod Unboarded
pub mod Alike
pub mod Over
pub mod Forwarding
pub mod Passing
mod InputsOver
mod ReadsInput
mod ReadsPlan
mod ReadsAsked
mod ReadsSeat
mod ReadsClear
mod ReadsStays
mod ReadsUnit
mod ReadsNow
mod ReadsLoad
mod ReadsKinds
mod ReadsInputs
mod ReadsLaws
mod ReadsTerms
mod ReadsRoots
mod ReadsBlocks
mod ReadsGraphs
mod LivesInputs
mod LivesFrame
mod LivesEnables
mod LivesRows
mod LivesLife
mod LivesShown
mod LivesTails
mod LivesCells
mod LivesUnits
mod LivesBehaviours
mod LivesDesign
mod LivesLaw
mod LivesOutputs
mod LivesPromise
mod LivesTold
