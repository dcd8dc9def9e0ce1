pub mod KeepingEach
pub mod InOrderReading
pub mod ReadingOnItems
pub mod RereadItems
pub mod TestedItems
