mod LastSeats
