mod BeginLaws
mod SeatLaws
