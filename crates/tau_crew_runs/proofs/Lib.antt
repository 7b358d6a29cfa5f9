mod Openings
