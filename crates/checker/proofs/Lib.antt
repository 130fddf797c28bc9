-- Laws of Check: the constraints as terms, their solutions, the attempts to solve them, and the verdicts told.
pub mod PosedLaws
pub mod SolvingLaws
pub mod AttemptLaws
pub mod SolveLaws
pub mod Telling
pub mod RoomLaws
